mod Bytes
mod Judging
mod OnePlan
mod Parts
mod Joining
