-- The table as the code reads it, and what callers know of every row. Assumes nothing.
use Rattle.std.proofs.Common.{◌≡◌, ℕ, ◌≤◌, List, Option, None, Some, Bor, true, leb, get_or, refl, arith}
use Rattle.std.proofs.lemmas.Bool.{leb-true}
use Rattle.std.specs.Slice.{IsItemAt}
use Rattle.std.specs.Option.{unwrap_or}
use Rattle.base_words.specs.Each.{each}
use Rattle.base_words.proofs.ListLaws.{each_at}
use Rattle.base_kinds.specs.declared.Kind.{Kind}
use Rattle.base_kinds.specs.Kinds.{many, kinds, kind_of, no_kind}

-- what `get` gives, or the default
pub item_or : {A : Type 0} (xs : List A) (i : ℕ) (r : Option (Bor A)) (d : Bor A) → IsItemAt xs i r → (unwrap_or r d).now ≡ get_or xs i d.now
item_or xs i None d h = h.4 (omega arith) d.now
item_or xs i (Some x) d h = h.4 (omega arith) d.now

-- no row has more than many of what it receives or sends
few : (f : Kind → ℕ) → each (λ r. leb (f r) many) kinds ≡ true → leb (f no_kind) many ≡ true → (k : ℕ) → f (kind_of k) ≤ many
unfolding kind_of
few f p q k = leb-true (f (get_or kinds k no_kind)) many (each_at (λ r. leb (f r) many) kinds no_kind p q k)

pub receives_few : (k : ℕ) → (kind_of k).receives ≤ many
unfolding each
receives_few = few (λ r. r.receives) refl refl

pub sends_few : (k : ℕ) → (kind_of k).sends ≤ many
unfolding each
sends_few = few (λ r. r.sends) refl refl
