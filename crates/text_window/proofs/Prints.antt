-- Laws of what a window receives.
use Rattle.std.proofs.Common.{ℕ, ◌≡◌, refl, ap, subst, ◌∙◌, ◌<◌, ◌^◌, List, [], ◌∷◌, ◌++◌, length}
use Rattle.text_window.specs.Window.{window, Printed, Prints}
use Rattle.text_window.specs.declared.Window.{Window}
use Rattle.text_window.proofs.Windows.{printed_nothing, then, same_place, whole_printed}

pub nothing : (w : Window) → Prints w [] w
nothing w = record { same_buffer = refl; same_from = refl; printed = printed_nothing w.out.now w.from w.at }

-- A piece, and then the piece after it, are one piece.
pub and_then : {u v w : Window} {xs ys : List ℕ} → Prints u xs v → Prints v ys w → Prints u (xs ++ ys) w
and_then {u} {v} {w} {xs} {ys} p q =
    let q' : Printed v.out.now u.from v.at ys w.at w.out.now = rw (← p.same_from) q.printed in
    record {
      same_buffer = q.same_buffer ∙ p.same_buffer;
      same_from = q.same_from ∙ p.same_from;
      printed = then p.printed q';
    }

pub same : {u v : Window} {xs : List ℕ} (ys : List ℕ) → xs ≡ ys → Prints u xs v → Prints u ys v
same ys e p = record { same_buffer = p.same_buffer; same_from = p.same_from; printed = same_place ys e p.printed }

pub one : {u v : Window} {x y : ℕ} → x ≡ y → Prints u (x ∷ []) v → Prints u (y ∷ []) v
one e p = same _ (ap (λ z. z ∷ []) e) p

-- A text that is printed from its first octet on gives its window.
pub whole : {u v : Window} (text : List ℕ) → length text < 2 ^ 64 → u.at ≡ 0 → Prints u text v → (v.at ≡ length text) × (v.out.now ≡ window u.out.now u.from text)
whole {u} {v} text h z p = whole_printed text h (subst (λ (at : ℕ). Printed u.out.now u.from at text v.at v.out.now) z p.printed)
