mod QueueParts
mod Turns
