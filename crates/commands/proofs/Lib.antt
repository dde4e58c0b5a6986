mod Consuming
mod Leading
mod Taking
mod FoundRows
mod Wholes
mod PlainLines
mod EndedLines
mod Sessions
