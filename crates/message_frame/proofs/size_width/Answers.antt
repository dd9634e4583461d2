-- `message_frame::size_width` meets its contract.
use native.Mathlib.Omega.{arith}
use Rattle.octets.specs.Control.{following}
use Rattle.octets_read.proofs.Leads.{direct, marked}
use Rattle.message_frame.specs.Frame.{frame_code}
use Rattle.message_frame.proofs.FrameReadAnswers.{last-lead}
use Rattle.message_frame.proofs.size_width.Goals as goal

pub returns-then-x-lt252 : goal.returns-then-x-lt252
returns-then-x-lt252 c = record { value = direct frame_code c.args.x c.if-x-lt252.true; upper_bound = omega arith }

pub returns-then-x-eq252 : goal.returns-then-x-eq252
unfolding following
returns-then-x-eq252 c = record { value = marked frame_code c.args.x 0xfc c.if-x-eq252.true; upper_bound = omega arith }

pub returns-then-x-eq253 : goal.returns-then-x-eq253
unfolding following
returns-then-x-eq253 c = record { value = marked frame_code c.args.x 0xfd c.if-x-eq253.true; upper_bound = omega arith }

pub returns-then-x-eq254 : goal.returns-then-x-eq254
unfolding following
returns-then-x-eq254 c = record { value = marked frame_code c.args.x 0xfe c.if-x-eq254.true; upper_bound = omega arith }

pub returns : goal.returns
unfolding following
returns c =
    let b = c in
    let e = last-lead b.args.x b.ranges.x.fits c.if-x-lt252.false c.if-x-eq252.false c.if-x-eq253.false c.if-x-eq254.false in record { value = marked frame_code b.args.x 0xff e; upper_bound = omega arith }
