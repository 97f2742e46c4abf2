mod Connected
mod LineStatus
mod Listened
mod NotOpening
mod Outcome
mod Worked
