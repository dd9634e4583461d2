-- `octets_read::tag_value` meets its contract.
use native.Mathlib.Omega.{arith}
use mathlib.Core.Path.{refl}
use Rattle.octets.specs.ControlPart.{tag_code}
use Rattle.octets.specs.internal.Least.{least_of_lead}
use Rattle.octets_read.proofs.Numbers.{no_octets}
use Rattle.octets_read.proofs.Coded.{coded_direct, tag_one, tag_two, tag_of_one, tag_of_two}
use Rattle.octets_read.proofs.Shortness.{least_direct, least_at}
use Rattle.octets_read.proofs.tag_value.Goals as goal

pub returns-then-t-lt14 : goal.returns-then-t-lt14
returns-then-t-lt14 c =
    let b = c in record { value_value = coded_direct tag_code b.args.t b.args.s.now c.if-t-lt14.true; shortest_value = least_direct tag_code b.args.t c.if-t-lt14.true }

pub one_more-a-requires : goal.one_more-a-requires
one_more-a-requires c =
    let b = c in record { i_in_bounds = tag_one b.args.t b.args.s.now b.requires.0 b.requires.1 c.if-t-lt14.false; v_value = no_octets }

pub returns-then-t-eq14 : goal.returns-then-t-eq14
unfolding least_of_lead
returns-then-t-eq14 c =
    let k = c in
    let b = k in record {
      value_value = tag_of_one b.args.t b.args.s.now b.requires.0 b.requires.1 k.if-t-lt14.false c.one_more-a.result c.if-t-eq14.true
          c.one_more-a.ensures;
      shortest_value = least_at tag_code b.args.t 14 14 c.one_more-a.result c.if-t-eq14.true refl;
    }

pub one_more-b-requires : goal.one_more-b-requires
one_more-b-requires c =
    let k = c in
    let b = k in record { i_in_bounds = tag_two b.args.t b.args.s.now b.requires.0 b.requires.1 k.if-t-lt14.false c.if-t-eq14.false; v_value = c.one_more-a.ensures }

pub returns : goal.returns
unfolding least_of_lead
returns c =
    let k = c in
    let b = k in record { value_value = tag_of_two b.args.t b.args.s.now b.requires.0 b.requires.1 k.if-t-lt14.false c.one_more-b.result c.one_more-b.ensures; shortest_value = least_at tag_code b.args.t 15 0x100 c.one_more-b.result (omega (arith, b.requires.0, k.if-t-lt14.false, c.if-t-eq14.false)) refl }
