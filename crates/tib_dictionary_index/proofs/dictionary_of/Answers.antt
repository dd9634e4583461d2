-- `dictionary_of` stores the word of each record.
use Prim.Native.Nat.{◌/◌}
use lib.ListN.{length}
use native.Mathlib.Omega.{arith}
use mathlib.Core.Path.{◌≡◌}
use Rattle.tib_dictionary_index.proofs.Stored.{stored_none, stored_more, stored_all}
use Rattle.tib_dictionary_index.proofs.dictionary_of.Goals as goal

pub loop-i-init : goal.loop-i-init
loop-i-init c = stored_none 512 c.args.s.now

pub loop-i-preserved : goal.loop-i-preserved
loop-i-preserved c =
    let l = c.loop-i in
    let e = c.entry_at in
    stored_more 512 l.i c.args.s.now l.words e.result c.word.result (omega arith) l.invariant e.ensures.value c.word.ensures

pub returns : goal.returns
returns c =
    let l = c.loop-i in
    let s = c.args.s.now in
    let all : l.i ≡ length s / 8 = omega arith in
    stored_all (length s / 8) s l.words (rw (← all) l.invariant)
