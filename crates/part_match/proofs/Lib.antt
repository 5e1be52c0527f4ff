mod FoundTasks
mod KeptJobs
mod NewTasks
mod OneList
mod ShorterTimes
