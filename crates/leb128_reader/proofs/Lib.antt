mod Groups
mod WordBytes
