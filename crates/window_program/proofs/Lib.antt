mod Arrived
mod Turned
