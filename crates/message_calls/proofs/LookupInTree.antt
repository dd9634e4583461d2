-- A lookup returns the k-th, or the last, of the tree's outermost fields with the tag.
use Prim.Native.Nat.{ℕ, ◌<◌, ◌^◌}
use native.Mathlib.Omega.{arith}
use mathlib.Core.Path.{◌≡◌, refl, sym, ap, ◌∙◌, subst}
use mathlib.Core.List.{List}
use mathlib.Core.Logic.{◌↔◌}
use mathlib.Core.Option.{Option, none, some, map}
use Rattle.reading.specs.Refusals as refusals
use Rattle.octets.specs.Number.{Octets}
use Rattle.table.specs.Schema.{schema}
use Rattle.table.specs.declared.Table.{Table}
use Rattle.message.specs.Cut.{Cut, Good}
use Rattle.message.specs.Tree.{tree}
use Rattle.message.specs.Items.{Item, item_tag, with_tag}
use Rattle.message.specs.Reading.{reading}
use Rattle.message.proofs.Accepted.{good_accepted}
use Rattle.message_calls.specs.Check.{check}
use Rattle.message_calls.specs.Lookup.{ItemSpan, outermost, chosen, refusal, found, answer, occurrence}
use Rattle.message_calls.specs.declared.outermost.Occurrence.{Occurrence}
use Rattle.message_calls.specs.declared.Found.{Found}
use Rattle.message_calls.proofs.ChosenElements.{Of, chosen_map, chosen_none, with_tag_map, with_tag_none}
use Rattle.message_calls.proofs.OutermostSpans.{item_of, items_are, InMessage, small_tags}
use Rattle.message_calls.proofs.LookupAnswers.{refused-first, wanted, answer-found, wanted-in-message}
use Rattle.message_calls.specs.InTree.{Answers}

module _ (t : Table) (revision n : ℕ) (s : List ℕ) (tag : ℕ) (which : Occurrence) where
  -- What the check refuses is refused with the check's number and place.
  pub refused_as_checked : ((check t revision n s).refusal ≡ 0 → ⊥) → answer t revision n s tag which ≡ refusal (check t revision n s).refusal (check t revision n s).place
  refused_as_checked ne = sym (refused-first t revision n s tag which (check t revision n s) refl ne)

  module _ (e : (check t revision n s).refusal ≡ 0) (cut : Cut) (g : Good (schema revision t) 8 n s cut) where
    wanted_item : map item_of (wanted (schema revision t) n s tag which cut) ≡ occurrence (tree (schema revision t) n cut) tag which
    unfolding wanted occurrence
    wanted_item =
        sym (chosen_map item_of which (with_tag item_of tag (outermost (schema revision t) n 0 cut)))
        ∙ ap (chosen which) (sym (with_tag_map item_of (λ (i : Item). i) tag (outermost (schema revision t) n 0 cut)))
        ∙ ap (λ (l : List Item). chosen which (with_tag (λ (i : Item). i) tag l)) (items_are (schema revision t) n 0 cut)

    is_found : answer t revision n s tag which ≡ found (wanted (schema revision t) n s tag which cut)
    unfolding reading
    is_found = answer-found t revision n s tag which e cut (good_accepted (schema revision t) 8 n 0 0 s cut g)

    -- The answer is the wanted one of the tree's outermost fields with the tag.
    pub answers_tree : Answers (schema revision t) n s tag (occurrence (tree (schema revision t) n cut) tag which) (answer t revision n s tag which)
    unfolding Answers Of found
    answers_tree =
        rw (← wanted_item, is_found) (go (wanted (schema revision t) n s tag which cut) (wanted-in-message (schema revision t) n s tag which cut g))
      where
        go : (o : Option ItemSpan) → Of (λ (o : ItemSpan). InMessage (schema revision t) 7 n s o × (item_tag o.item ≡ tag)) o
            → Answers (schema revision t) n s tag (map item_of o) (found o)
        go none h = refl
        go (some o) h =
            record {
              accepted = refl;
              nowhere = refl;
              tagged = h.1;
              kind = refl;
              value = refl;
              signed = refl;
              inside = h.0.inside;
              contents = h.0.shows;
            }

    -- The lookup refuses the field as absent exactly where the tree has no such field.
    pub absent_exactly : ((answer t revision n s tag which).refusal ≡ 18) ↔ (occurrence (tree (schema revision t) n cut) tag which ≡ none)
    unfolding Answers refusal
    absent_exactly = go (occurrence (tree (schema revision t) n cut) tag which) answers_tree
      where
        go : (o : Option Item) → Answers (schema revision t) n s tag o (answer t revision n s tag which) → ((answer t revision n s tag which).refusal ≡ 18) ↔ (o ≡ none)
        go none h = (λ x. refl, λ x. ap (λ (r : Found). r.refusal) h)
        go (some i) h = (λ x. let a = h.accepted in absurd (omega arith), λ x. let z : ◌≡◌ {A = ℕ} 0 1 = cc in absurd (omega arith))

    -- A tag over 65,535 is in no message of octets.
    pub large_tag : Octets s → 65535 < tag → answer t revision n s tag which ≡ refusal refusals.absent 0
    unfolding wanted found
    large_tag o h =
        let k = small_tags (schema revision t) n cut 0 g.allowed (subst Octets (sym g.divides) o) in
        let f = with_tag_none item_of (256 ^ 2) tag (outermost (schema revision t) n 0 cut) (omega arith) k in
        is_found ∙ rw (f, chosen_none {A = ItemSpan} which)
