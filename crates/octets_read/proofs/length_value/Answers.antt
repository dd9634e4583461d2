-- `octets_read::length_value` meets its contract.
use Prim.Native.Nat.{◌≤◌, ◌<◌}
use native.Mathlib.Omega.{arith}
use mathlib.Core.Path.{refl}
use lib.ListN.{length}
use Rattle.octets.specs.ControlPart.{length_code}
use Rattle.octets.specs.internal.Least.{least_of_lead}
use Rattle.octets_read.proofs.Numbers.{no_octets}
use Rattle.octets_read.proofs.Coded.{coded_direct, coded_after, length_one, length_two, length_four, length_eight, length_of_one, length_of_two, length_of_four}
use Rattle.octets_read.proofs.Shortness.{least_direct, least_at}
use Rattle.octets_read.proofs.length_value.Goals as goal
use Rattle.octets_read.proofs.length_value.Goals.{Else-l-eq13}

pub returns-then-l-lt12 : goal.returns-then-l-lt12
returns-then-l-lt12 c =
    let b = c in record { value_value = coded_direct length_code b.args.l b.args.s.now c.if-l-lt12.true; shortest_value = least_direct length_code b.args.l c.if-l-lt12.true }

pub one_more-a-requires : goal.one_more-a-requires
one_more-a-requires c =
    let b = c in record { i_in_bounds = length_one b.args.l b.args.s.now b.requires.0 b.requires.1 c.if-l-lt12.false; v_value = no_octets }

pub returns-then-l-eq12 : goal.returns-then-l-eq12
unfolding least_of_lead
returns-then-l-eq12 c =
    let k = c in
    let b = k in record {
      value_value = length_of_one b.args.l b.args.s.now b.requires.0 b.requires.1 k.if-l-lt12.false c.one_more-a.result c.if-l-eq12.true
          c.one_more-a.ensures;
      shortest_value = least_at length_code b.args.l 12 12 c.one_more-a.result c.if-l-eq12.true refl;
    }

pub one_more-b-requires : goal.one_more-b-requires
one_more-b-requires c =
    let k = c in
    let b = k in record { i_in_bounds = length_two b.args.l b.args.s.now b.requires.0 b.requires.1 k.if-l-lt12.false c.if-l-eq12.false; v_value = c.one_more-a.ensures }

pub returns-then-l-eq13 : goal.returns-then-l-eq13
unfolding least_of_lead
returns-then-l-eq13 c =
    let k = c in
    let b = k in record {
      value_value = length_of_two b.args.l b.args.s.now b.requires.0 b.requires.1 k.if-l-lt12.false c.one_more-b.result c.if-l-eq13.true
          c.one_more-b.ensures;
      shortest_value = least_at length_code b.args.l 13 0x100 c.one_more-b.result c.if-l-eq13.true refl;
    }

-- At the third and the fourth octet neither one nor two octets follow.
four : (c : Else-l-eq13) → (3 < length c.args.s.now)
    × (length c.args.s.now ≤ 8)
four c =
    let k = c in
    let b = k in
    length_four b.args.l b.args.s.now b.requires.0 b.requires.1 k.if-l-lt12.false c.if-l-eq12.false c.if-l-eq13.false

pub one_more-c-requires : goal.one_more-c-requires
one_more-c-requires c = let f = four (goal.at.one_more-c-requires c).Else-l-eq13 in record { i_in_bounds = (omega (arith, f.0), f.1); v_value = c.one_more-b.ensures }

pub one_more-d-requires : goal.one_more-d-requires
one_more-d-requires c = record { i_in_bounds = four (goal.at.one_more-d-requires c).Else-l-eq13; v_value = c.one_more-c.ensures }

pub returns-then-l-eq14 : goal.returns-then-l-eq14
unfolding least_of_lead
returns-then-l-eq14 c =
    let j = c in
    let k = j in
    let b = k in record {
      value_value = length_of_four b.args.l b.args.s.now b.requires.0 b.requires.1 k.if-l-lt12.false c.one_more-d.result c.if-l-eq14.true
          c.one_more-d.ensures;
      shortest_value = least_at length_code b.args.l 14 0x1_0000 c.one_more-d.result c.if-l-eq14.true refl;
    }

pub four_more-e-requires : goal.four_more-e-requires
four_more-e-requires c =
    let j = c in
    let k = j in
    let b = k in record { s_len = length_eight b.args.l b.args.s.now b.requires.0 b.requires.1 k.if-l-lt12.false j.if-l-eq12.false j.if-l-eq13.false c.if-l-eq14.false; v_value = c.one_more-d.ensures }

pub returns : goal.returns
unfolding least_of_lead
returns c =
    let j = c in
    let k = j in
    let b = k in record {
      value_value = coded_after length_code b.args.l b.args.s.now c.four_more-e.result k.if-l-lt12.false c.four_more-e.ensures;
      shortest_value = least_at length_code b.args.l 15 0x1_0000_0000 c.four_more-e.result
          (omega (arith, b.requires.0, k.if-l-lt12.false, j.if-l-eq12.false, j.if-l-eq13.false, c.if-l-eq14.false)) refl;
    }
