-- `octets_read::big_endian` meets its contract: the octets passed hold the number so far.
use Rattle.std.proofs.Common.{◌≡◌, take}
use Rattle.octets.specs.Number.{big_endian}
use Rattle.octets_read.proofs.big_endian.Given as goal

abbrev pub invariant-loop-x : goal.invariant-loop-x
invariant-loop-x l = l.v ≡ big_endian (take l.x-index l.s)
