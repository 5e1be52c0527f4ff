mod CutJobs
mod KeptRows
mod OneMore
mod Pieces
mod Ways
