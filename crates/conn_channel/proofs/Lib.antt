mod Sums
mod Interleavings
mod Views
mod Steps
mod Witnessed
mod Settled
mod Unseen
