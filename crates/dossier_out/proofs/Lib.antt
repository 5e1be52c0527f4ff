mod JobTexts
mod Runs
mod TeamTables
