-- The samples of text hold: each side of each equation computes to the same.
use mathlib.Core.Path.{refl}
use Rattle.octets.specs.Utf8.{grammar}
use Rattle.octets.specs.Text.{within, after, text_after, text}
use Rattle.octets.specs.Scalars.{six_bits, encode, encode_all}
use Rattle.octets.specs.TextSamples.{good_samples, bad_samples, HoldGood, HoldBad}

pub good_samples_hold : HoldGood good_samples
unfolding HoldGood good_samples encode_all encode six_bits text text_after after within grammar
good_samples_hold =
    ((refl, refl), ((refl, refl), ((refl, refl), ((refl, refl), ((refl, refl), ((refl, refl), ((refl, refl), ((refl, refl), ((refl, refl), ((refl, refl), tt))))))))))

pub bad_samples_hold : HoldBad bad_samples
unfolding HoldBad bad_samples text text_after after within grammar
bad_samples_hold = (refl, (refl, (refl, (refl, (refl, (refl, (refl, (refl, (refl, (refl, (refl, (refl, (refl, (refl, tt))))))))))))))
