-- In the things of a drawing a multiplicity stands in a participant: the walk notes it in no other, and what follows changes no sort. Assumes nothing.
use Rattle.std.specs.Prelude.{Ok, Err}
use Prim.Native.Nat.{ℕ, zero, suc, ◌+◌, ◌≤◌, ◌<◌}
use mathlib.Core.Path.{◌≡◌, ◌∙◌, refl, sym, ap, subst}
use mathlib.Core.Bool.{Bool, true, false, not, ◌||◌, false≢true}
use mathlib.Core.List.{List, [], ◌∷◌}
use native.Mathlib.Decide.{ℕ_discrete, dec_lt}
use native.Mathlib.Omega.{arith}
use lib.Dec.{eqb, ltb}
use lib.ListN.{length, get_or, set, replicate, length-set, length-replicate, get_or-eq_default}
use lib.Seq.{get_or-set_same, get_or-set_other}
use borrow.Author.Tests.{eqb-true, eq-eqb, ne_eqb, ltb-true, ltb-false}
use Rattle.base_words.specs.Each.{each}
use Rattle.base_words.specs.Pick.{if◌then◌or_else◌}
use Rattle.base_words.specs.Text.{bytes}
use Rattle.base_words.specs.Words.{at}
use Rattle.base_words.proofs.AllLaws.{and_left, and_right}
use Rattle.base_words.proofs.IterLaws.{iter_keeps}
use Rattle.xml_skip.specs.declared.Part.{Part}
use Rattle.xml_skip.specs.declared.Part.TheVariants.{Element, Close, On, Fault as PartFault}
use Rattle.xml_skip.specs.declared.Tag.{Tag}
use Rattle.xml_skip.specs.declared.Tag.TheVariants.{Open, Empty, Fault as TagFault}
use Rattle.xml_skip.specs.Skipping.{part_at, Reached}
use Rattle.xml_document.specs.Around.{root_at, last_from}
use Rattle.draw_things.specs.Things.{nothing, definitions, collaboration, participant, participant_multiplicity, process, stranger, room, block_words, sort_place, place_place, within_place, source_place, target_place, sort, within, greatest_note, narrow, one_more, added}
use Rattle.draw_things.specs.Names.{Row, rows, unknown, row_of, is_event, family, named_in, named_at, draws_another, drawn_as}
use Rattle.draw_walk.specs.declared.Outer.{Outer}
use Rattle.draw_walk.specs.Walk.{Walk, walk_told, walked, entered, noted, counted, outer, Content, by_tag, thing_by, by_end, walk_on, by_part, content_by, content_in, content_at, thing_at, walk}
use Rattle.draw_links.specs.Links.{flow_joined, owned, linked, links}
use Rattle.draw_kinds.specs.Roles.{kind_settled, roles}
use Rattle.draw_read.specs.Drawings as drawings
use Rattle.proof_roundtrip.proofs.BlankLaws.{zero_word}
use Rattle.proof_drawings.proofs.TestLaws.{more_is}
use Rattle.proof_drawings.proofs.TermLaws.{either}
use Rattle.proof_drawings.proofs.SettledLaws.{Settled, settled_things}
use Rattle.proof_drawings.proofs.ContentModel.{Placed}

apart : (a b : ℕ) → eqb a b ≡ false → a ≡ b → ⊥
apart a b e q = false≢true (sym e ∙ eq-eqb a b q)

-- NAMES. What draws x stands in a y
abbrev right_row : ℕ → ℕ → Row → Bool
right_row x y r = not (eqb r.sort x) || eqb r.parent y

module _ (x y : ℕ) (some : eqb nothing x ≡ false) (known : eqb stranger x ≡ false) (one : eqb 12 y ≡ false) where
  each_at : (xs : List Row) (i : ℕ) → each (right_row x y) xs ≡ true → right_row x y unknown ≡ true → right_row x y (get_or xs i unknown) ≡ true
  unfolding each
  each_at [] i e u = u
  each_at (r ∷ rs) zero e u = and_left (right_row x y r) (each (right_row x y) rs) e
  each_at (r ∷ rs) (suc i) e u = each_at rs i (and_right (right_row x y r) (each (right_row x y) rs) e) u

  row_parent : (r : Row) → right_row x y r ≡ true → r.sort ≡ x → r.parent ≡ y
  row_parent r h e = go (eqb r.sort x) (eq-eqb r.sort x e) h
    where
      go : (b : Bool) → b ≡ true → not b || eqb r.parent y ≡ true → r.parent ≡ y
      go true q h = eqb-true r.parent y h
      go false q h = absurd (false≢true q)

  family_is : (s : ℕ) → family s ≡ y → s ≡ y
  unfolding family
  family_is s = go (is_event s)
    where
      go : (b : Bool) → (if b then 12 or_else s) ≡ y → s ≡ y
      go true e = absurd (apart 12 y one (unfold if◌then◌or_else◌ in e))
      go false e = unfold if◌then◌or_else◌ in e

  named_in_lem : (r : Row) (s : ℕ) → right_row x y r ≡ true → named_in r s ≡ x → s ≡ y
  unfolding named_in
  named_in_lem r s h = go (eqb r.sort nothing) (eqb r.parent (family s)) refl
    where
      go : (a b : Bool) → eqb r.parent (family s) ≡ b → (if a then nothing or_else if not b then stranger or_else r.sort) ≡ x → s ≡ y
      go true b q e = absurd (apart nothing x some (unfold if◌then◌or_else◌ in e))
      go false false q e = absurd (apart stranger x known (unfold if◌then◌or_else◌ in e))
      go false true q e = family_is s (sym (eqb-true r.parent (family s) q) ∙ row_parent r h (unfold if◌then◌or_else◌ in e))

  named_at_lem : each (right_row x y) rows ≡ true → right_row x y unknown ≡ true → (s : ℕ) (t : List ℕ) (p : ℕ) → named_at s t p ≡ x → s ≡ y
  unfolding named_at row_of
  named_at_lem h u s t p e = named_in_lem _ s (each_at rows _ h u) e

rows_right : each (right_row participant_multiplicity participant) rows ≡ true
unfolding each rows
rows_right = refl

participants_right : each (right_row participant collaboration) rows ≡ true
unfolding each rows
participants_right = refl

drawn_as_lem : (s : ℕ) (t : List ℕ) (p : ℕ) → drawn_as (named_at s t p) s t p ≡ participant_multiplicity → s ≡ participant
unfolding drawn_as
drawn_as_lem s t p = go (eqb s process) (draws_another t p)
  where
    named : named_at s t p ≡ participant_multiplicity → s ≡ participant
    named = named_at_lem participant_multiplicity participant refl refl refl rows_right refl s t p

    go : (a b : Bool) → (if not a then named_at s t p or_else if b then stranger or_else named_at s t p) ≡ participant_multiplicity → s ≡ participant
    go false b e = named (unfold if◌then◌or_else◌ in e)
    go true false e = named (unfold if◌then◌or_else◌ in e)
    go true true e = absurd (apart stranger participant_multiplicity refl (unfold if◌then◌or_else◌ in e))

-- a participant stands in no process, and draws none but itself
drawn_participant : (s : ℕ) (t : List ℕ) (p : ℕ) → named_at s t p ≡ participant → drawn_as (named_at s t p) s t p ≡ participant
unfolding drawn_as if◌then◌or_else◌
drawn_participant s t p e = rw (ne_eqb s process (λ q. apart collaboration process refl (sym (named_at_lem participant collaboration refl refl refl participants_right refl s t p e) ∙ q))) e

-- THE THINGS SO FAR: n of them, in the words w
record Sound (w : List ℕ) (n : ℕ) : Type 0 where
  pub long : length w ≡ block_words
  pub few : n ≤ greatest_note
  pub inside : (k : ℕ) → sort w k ≡ participant_multiplicity → (within w k < n) × (sort w (within w k) ≡ participant)

-- thing k is a participant among them, where there is room
abbrev Stands : ℕ → List ℕ → ℕ → Type 0
Stands k w n = n < room → (k < n) × (sort w k ≡ participant)

record Grown (w : List ℕ) (n : ℕ) (v : List ℕ) (m : ℕ) : Type 0 where
  pub more : n ≤ m
  pub same : (j : ℕ) → j < n → sort v j ≡ sort w j

record Kept (w : List ℕ) (n : ℕ) (r : Walk) : Type 0 where
  pub sound : Sound r.words r.count
  pub grown : Grown w n r.words r.count

stays : (k : ℕ) (w : List ℕ) (n : ℕ) (v : List ℕ) (m : ℕ) → Grown w n v m → Stands k w n → Stands k v m
stays k w n v m g h l = let a = h (omega (arith, l, g.more)) in (omega (arith, a.0, g.more), g.same k a.0 ∙ a.1)

further : (w : List ℕ) (n : ℕ) (v : List ℕ) (m : ℕ) (r : Walk) → Grown w n v m → Kept v m r → Kept w n r
further w n v m r g k =
    record {
      sound = k.sound;
      grown = record { more = omega (arith, g.more, k.grown.more); same = λ j l. k.grown.same j (omega (arith, l, g.more)) ∙ g.same j l };
    }

still : (w : List ℕ) (n : ℕ) (r : Walk) → Sound w n → r.words ≡ w → r.count ≡ n → Kept w n r
still w n r s e f = record { sound = subst (Sound r.words) (sym f) (subst (λ v. Sound v n) (sym e) s); grown = record { more = omega (arith, f); same = λ j l. ap (λ v. sort v j) e } }

more_least : (n : ℕ) → n ≤ greatest_note → n ≤ one_more n
unfolding one_more
more_least n h = go (ltb n greatest_note)
  where
    go : (b : Bool) → n ≤ (if b then n + 1 or_else greatest_note)
    go true = unfold if◌then◌or_else◌ in omega arith
    go false = unfold if◌then◌or_else◌ in h

more_most : (n : ℕ) → one_more n ≤ greatest_note
unfolding one_more
more_most n = go (ltb n greatest_note) refl
  where
    go : (b : Bool) → ltb n greatest_note ≡ b → (if b then n + 1 or_else greatest_note) ≤ greatest_note
    go true e = unfold if◌then◌or_else◌ in let l = ltb-true n greatest_note e in omega (arith, l)
    go false e = unfold if◌then◌or_else◌ in omega arith

-- ONE MORE THING
module _ (s p k : ℕ) (w : List ℕ) (n : ℕ) (sound : Sound w n) where
  abbrev w₁ : List ℕ
  w₁ = set w (sort_place n) s

  abbrev w₂ : List ℕ
  w₂ = set w₁ (place_place n) (narrow p)

  abbrev w₃ : List ℕ
  w₃ = set w₂ (within_place n) k

  abbrev w₄ : List ℕ
  w₄ = set w₃ (source_place n) 0

  abbrev w₅ : List ℕ
  w₅ = set w₄ (target_place n) 0

  long₂ : length w₂ ≡ block_words
  long₂ = length-set w₁ (place_place n) (narrow p) ∙ length-set w (sort_place n) s ∙ sound.long

  long₅ : length w₅ ≡ block_words
  long₅ = length-set w₄ (target_place n) 0 ∙ length-set w₃ (source_place n) 0 ∙ length-set w₂ (within_place n) k ∙ long₂

  -- a place that none of the five is
  other : (i : ℕ) → (i ≡ sort_place n → ⊥) → (i ≡ place_place n → ⊥) → (i ≡ within_place n → ⊥) → (i ≡ source_place n → ⊥) → (i ≡ target_place n → ⊥) → at w₅ i ≡ at w i
  other i a b c d e =
      get_or-set_other w₄ (target_place n) i 0 0 e
      ∙ get_or-set_other w₃ (source_place n) i 0 0 d
      ∙ get_or-set_other w₂ (within_place n) i k 0 c
      ∙ get_or-set_other w₁ (place_place n) i (narrow p) 0 b
      ∙ get_or-set_other w (sort_place n) i s 0 a

  sort_other : (j : ℕ) → (j ≡ n → ⊥) → sort w₅ j ≡ sort w j
  sort_other j m = other (sort_place j) (λ q. omega (arith, q, m)) (λ q. omega (arith, q)) (λ q. omega (arith, q)) (λ q. omega (arith, q)) (λ q. omega (arith, q))

  within_other : (j : ℕ) → (j ≡ n → ⊥) → within w₅ j ≡ within w j
  within_other j m = other (within_place j) (λ q. omega (arith, q)) (λ q. omega (arith, q)) (λ q. omega (arith, q, m)) (λ q. omega (arith, q)) (λ q. omega (arith, q))

  sort_new : n < room → sort w₅ n ≡ s
  sort_new l =
      get_or-set_other w₄ (target_place n) (sort_place n) 0 0 (λ q. omega (arith, q))
      ∙ get_or-set_other w₃ (source_place n) (sort_place n) 0 0 (λ q. omega (arith, q))
      ∙ get_or-set_other w₂ (within_place n) (sort_place n) k 0 (λ q. omega (arith, q))
      ∙ get_or-set_other w₁ (place_place n) (sort_place n) (narrow p) 0 (λ q. omega (arith, q))
      ∙ get_or-set_same w (sort_place n) s 0 (omega (arith, l, sound.long))

  within_new : n < room → within w₅ n ≡ k
  within_new l =
      get_or-set_other w₄ (target_place n) (within_place n) 0 0 (λ q. omega (arith, q))
      ∙ get_or-set_other w₃ (source_place n) (within_place n) 0 0 (λ q. omega (arith, q))
      ∙ get_or-set_same w₂ (within_place n) k 0 (omega (arith, l, long₂))

  module _ (stands : s ≡ participant_multiplicity → Stands k w n) where
    inside_new : (j : ℕ) → Dec (j ≡ n) → Dec (n < room) → sort w₅ j ≡ participant_multiplicity → (within w₅ j < one_more n) × (sort w₅ (within w₅ j) ≡ participant)
    inside_new j (no m) d e =
        let i = sound.inside j (sym (sort_other j m) ∙ e) in
        let q = within_other j m in (
          omega (arith, q, i.0, more_least n sound.few),
          ap (sort w₅) q ∙ sort_other (within w j) (λ z. omega (arith, z, i.0)) ∙ i.1,
        )
    inside_new j (yes z) (yes l) e =
        let a = stands (sym (sort_new l) ∙ ap (sort w₅) (sym z) ∙ e) l in
        let q : within w₅ j ≡ k = ap (within w₅) z ∙ within_new l in (
          omega (arith, q, a.0, more_least n sound.few),
          ap (sort w₅) q ∙ sort_other k (λ y. omega (arith, y, a.0)) ∙ a.1,
        )
    inside_new j (yes z) (no l) e =
        let q : sort w₅ j ≡ 0 = get_or-eq_default w₅ 0 (let y : length w₅ ≤ sort_place j = omega (arith, l, z, long₅) in y) in
        absurd (omega (arith, q, e))

    added_sound : Sound (added s p k w n) (one_more n)
    unfolding added
    added_sound = record { long = long₅; few = more_most n; inside = λ j. inside_new j (ℕ_discrete j n) (dec_lt n room) }

    added_grown : Grown w n (added s p k w n) (one_more n)
    unfolding added
    added_grown = record { more = more_least n sound.few; same = λ j l. sort_other j (λ q. omega (arith, q, l)) }

    added_stands : s ≡ participant → Stands n (added s p k w n) (one_more n)
    unfolding added
    added_stands e l = let q : n < room = omega (arith, l, more_least n sound.few) in (omega (arith, more_is n q), sort_new q ∙ e)

    record Noted (v : List ℕ) (m : ℕ) : Type 0 where
      pub sound_now : Sound v m
      pub grown_now : Grown w n v m
      pub stands_now : s ≡ participant → Stands n v m

    noted_kept : Noted (noted s p k w n) (counted s n)
    unfolding noted counted
    noted_kept = go (eqb s nothing) refl
      where
        go : (b : Bool) → eqb s nothing ≡ b → Noted (if b then w or_else added s p k w n) (if b then n or_else one_more n)
        go true e =
            unfold if◌then◌or_else◌ in
            record {
              sound_now = sound;
              grown_now = record { more = omega arith; same = λ j l. refl };
              stands_now = λ q. absurd (apart participant nothing refl (sym q ∙ eqb-true s nothing e));
            }
        go false e = unfold if◌then◌or_else◌ in record { sound_now = added_sound; grown_now = added_grown; stands_now = added_stands }

-- THE WALK, where what walks content keeps this
module _ (t : List ℕ) (C : Content) (on : (o : Outer) (q : ℕ) (w : List ℕ) (n : ℕ) → Sound w n → (o.sort ≡ participant → Stands o.thing w n) → Kept w n (C o q w n)) where
  by_tag_lem : (g : Tag) (o : Outer) (w : List ℕ) (n : ℕ) (v : List ℕ) (m : ℕ) → Sound v m → Grown w n v m → (o.sort ≡ participant → Stands o.thing v m) → Kept w n (by_tag g (λ q. C o q v m) v m)
  unfolding by_tag walk_told
  by_tag_lem (Open q) o w n v m s g h = further w n v m (C o q v m) g (on o q v m s h)
  by_tag_lem (Empty q) o w n v m s g h = record { sound = s; grown = g }
  by_tag_lem (TagFault q) o w n v m s g h = record { sound = s; grown = g }

  thing_kept : (s d k p : ℕ) (w : List ℕ) (n : ℕ) → Sound w n → (d ≡ participant_multiplicity → Stands k w n) → (s ≡ participant → d ≡ participant) → Kept w n (thing_by C s d t k p w n)
  unfolding thing_by
  thing_kept s d k p w n sound h q =
      let x = noted_kept d p k w n sound h in
      by_tag_lem (entered s t p) (outer s n p) w n (noted d p k w n) (counted d n) x.sound_now x.grown_now (λ e. x.stands_now (q e))

  behind_kept : (o : Outer) (w : List ℕ) (n : ℕ) (r : Walk) → Kept w n r → (o.sort ≡ participant → Stands o.thing w n) → Kept w n (walk_on r (C o))
  unfolding walk_on
  behind_kept o w n r k h = go r.end
    where
      go : (e : Reached) → Kept w n (by_end e (λ q. C o q r.words r.count) r)
      go (Ok q) = unfold by_end in further w n r.words r.count _ k.grown (on o q r.words r.count k.sound (λ e. stays o.thing w n r.words r.count k.grown (h e)))
      go (Err q) = unfold by_end in k

  by_part_lem : (g : Part) (r : Walk) (o : Outer) (w : List ℕ) (n : ℕ) → Sound w n → Kept w n r → (o.sort ≡ participant → Stands o.thing w n) → Kept w n (by_part g r (C o) w n)
  unfolding by_part walk_told
  by_part_lem Element r o w n s k h = behind_kept o w n r k h
  by_part_lem (Close q) r o w n s k h = still w n _ s refl refl
  by_part_lem (On q) r o w n s k h = on o q w n s h
  by_part_lem (PartFault q) r o w n s k h = still w n _ s refl refl

  content_kept : (o : Outer) (p : ℕ) (w : List ℕ) (n : ℕ) → Sound w n → (o.sort ≡ participant → Stands o.thing w n) → Kept w n (content_by C t o p w n)
  unfolding content_by walk_told
  content_kept o p w n s h =
      either (Kept w n) _ _ _ (still w n _ s refl refl)
      (by_part_lem (part_at t o.tag p) (thing_by C (named_at o.sort t p) (drawn_as (named_at o.sort t p) o.sort t p) t o.thing p w n) o w n s (thing_kept (named_at o.sort t p) (drawn_as (named_at o.sort t p) o.sort t p) o.thing p w n s (λ e. h (drawn_as_lem o.sort t p e)) (drawn_participant o.sort t p)) h)

in_kept : (m : ℕ) (t : List ℕ) (o : Outer) (p : ℕ) (w : List ℕ) (n : ℕ) → Sound w n → (o.sort ≡ participant → Stands o.thing w n) → Kept w n (content_in m t o p w n)
unfolding content_in walk_told
in_kept zero t o p w n s h = still w n _ s refl refl
in_kept (suc m) t o p w n s h = content_kept t (content_in m t) (in_kept m t) o p w n s h

empty_sound : Sound (replicate block_words 0) 0
empty_sound = record { long = length-replicate {A = ℕ} block_words 0; few = omega arith; inside = λ k e. absurd (apart 0 participant_multiplicity refl (sym (zero_word block_words (sort_place k)) ∙ e)) }

root_kept : (t : List ℕ) (p : ℕ) (w : List ℕ) → Sound w 0 → Kept w 0 (thing_at definitions definitions t 0 p w 0)
unfolding thing_at content_at
root_kept t p w s = thing_kept t (content_in (length t) t) (in_kept (length t) t) definitions definitions 0 p w 0 s (λ e. absurd (apart definitions participant_multiplicity refl e)) (λ e. absurd (apart definitions participant refl e))

walk_sound : (t w : List ℕ) → Sound w 0 → Sound (walk t w).words (walk t w).count
unfolding walk walk_told
walk_sound t w s = go (root_at (bytes "definitions") t)
  where
    last : (r : Walk) (e : Reached) → Sound r.words r.count → Sound (by_end e (λ q. record { end = last_from t q; count = r.count; words = r.words }) r).words (by_end e (λ q. record { end = last_from t q; count = r.count; words = r.words }) r).count
    last r (Ok q) k = unfold by_end in k
    last r (Err q) k = unfold by_end in k

    go : (e : Reached) → Sound (by_end e (λ p. walk_on (thing_at definitions definitions t 0 p w 0) (λ q v n. walk_told (walked (last_from t q) n) v)) (walk_told (walked (root_at (bytes "definitions") t) 0) w)).words (by_end e (λ p. walk_on (thing_at definitions definitions t 0 p w 0) (λ q v n. walk_told (walked (last_from t q) n) v)) (walk_told (walked (root_at (bytes "definitions") t) 0) w)).count
    go (Ok p) = unfold by_end walk_on in last (thing_at definitions definitions t 0 p w 0) (thing_at definitions definitions t 0 p w 0).end (root_kept t p w s).sound
    go (Err q) = unfold by_end in s

-- ENDS AND KINDS are stored elsewhere
put_placed : (w : List ℕ) (i v : ℕ) → ((j : ℕ) → sort_place j ≡ i → ⊥) → ((j : ℕ) → within_place j ≡ i → ⊥) → Placed w → Placed (set w i v)
put_placed w i v a b h = record { inside = λ k e. ap (sort (set w i v)) (within_is k) ∙ sort_is (within w k) ∙ h.inside k (sym (sort_is k) ∙ e) }
  where
    sort_is : (j : ℕ) → sort (set w i v) j ≡ sort w j
    sort_is j = get_or-set_other w i (sort_place j) v 0 (a j)

    within_is : (j : ℕ) → within (set w i v) j ≡ within w j
    within_is j = get_or-set_other w i (within_place j) v 0 (b j)

put_source : (w : List ℕ) (k v : ℕ) → Placed w → Placed (set w (source_place k) v)
put_source w k v h = put_placed w (source_place k) v (λ j q. omega (arith, q)) (λ j q. omega (arith, q)) h

put_target : (w : List ℕ) (k v : ℕ) → Placed w → Placed (set w (target_place k) v)
put_target w k v h = put_placed w (target_place k) v (λ j q. omega (arith, q)) (λ j q. omega (arith, q)) h

linked_placed : (t : List ℕ) (n k : ℕ) (w : List ℕ) → Placed w → Placed (linked t n k w)
unfolding linked flow_joined owned
linked_placed t n k w h = either Placed _ _ _ (put_target _ k _ (put_source w k _ h)) (either Placed _ _ _ (put_source w k _ h) h)

links_placed : (t : List ℕ) (n : ℕ) (w : List ℕ) → Placed w → Placed (links t n w)
unfolding links
links_placed t n w h = iter_keeps (linked t n) w Placed n (λ k v l p. linked_placed t n k v p) h

settled_placed : (n k : ℕ) (w : List ℕ) → Placed w → Placed (kind_settled n k w)
unfolding kind_settled
settled_placed n k w h = either Placed _ _ _ (put_source w k _ h) h

roles_placed : (n : ℕ) (w : List ℕ) → Placed w → Placed (roles n w)
unfolding roles
roles_placed n w h = iter_keeps (kind_settled n) w Placed n (λ k v l p. settled_placed n k v p) h

pub things_placed : (t : List ℕ) → Placed (drawings.things_of t)
unfolding drawings.things_of drawings.settled_by drawings.walked_text
things_placed t =
    let s = walk_sound t (replicate block_words 0) empty_sound in
    roles_placed _ _ (links_placed t _ _ (record { inside = λ k e. (s.inside k e).1 }))

pub things_settled : (t : List ℕ) → (drawings.walked_text t).count ≤ room → Settled (drawings.things_of t) (drawings.walked_text t).count
unfolding drawings.things_of drawings.settled_by drawings.walked_text
things_settled t few = settled_things t _ (walk t (replicate block_words 0)).words (walk_sound t (replicate block_words 0) empty_sound).long few
