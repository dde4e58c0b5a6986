mod Backing
mod Ending
mod Fronting
mod Going
mod Lacking
mod Reading
mod Recorded
mod Sorting
