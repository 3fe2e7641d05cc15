-- A MARKUP BY ITS OUTLINE: its bytes are passed as in any markup, and no token is judged. What a drawing's walk has passed has no fault (20), and there this is its markup: where a condition's tags end is
-- found without comparing the names of their attributes once more.
use Rattle.std.specs.Prelude.{ℕ, ◌+◌, List, [], ◌∷◌, drop}
use Rattle.base_words.specs.Blocks.{Bytes}
use Rattle.base_words.specs.Words.{at}
use Rattle.xml_scanner.specs.declared.Sort.{Sort}
use Rattle.xml_markup.specs.declared.Cursor.{Cursor}
use Rattle.xml_markup.specs.declared.Scan.{Scan}
use Rattle.xml_markup.specs.declared.Scan.TheVariants.{On, Past, Fault}
use Rattle.xml_markup.specs.Tokens.{moved, if_on, begun}

-- byte by byte, with the bytes s from the place i on
unfoldable pub outline_from : Bytes → Cursor → List ℕ → ℕ → Scan
outline_from t c [] i = Fault i
outline_from t c (b ∷ s) i = if_on (moved c (at t i) i (i + 1)) (λ next. outline_from t next s (i + 1)) (moved c (at t i) i (i + 1))

unfoldable pub outline : Bytes → ℕ → Scan
outline t p = outline_from t (begun p) (drop p t) p

-- where it ends: its sort, and the place behind it
unfoldable pub if_past : {A : Type 0} → Scan → (Sort → ℕ → A) → A → A
if_past (On c) f a = a
if_past (Past sort q) f a = f sort q
if_past (Fault q) f a = a
