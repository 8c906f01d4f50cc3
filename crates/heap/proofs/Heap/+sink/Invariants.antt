-- The levels left fall with each call of `sink`.
use Rattle.heap.proofs.Heap.+sink.Given as goal

abbrev pub decreases-sink : goal.decreases-sink
decreases-sink l = l.levels
