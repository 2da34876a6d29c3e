-- Proofs of what a worker did that others may wait for.
mod Keeping
