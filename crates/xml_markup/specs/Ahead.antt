-- A TAG READ AHEAD: its names are looked at many at a time. They are kept in the order of their numbers, the shorter first and then byte by byte, so that one is found without looking at
-- all of them; a name whose number stands nowhere is new in its tag.
use Rattle.std.specs.Prelude.{ℕ, ◌+◌, ◌*◌, ◌/◌, ◌%◌, ◌<◌, ◌≤◌, ◌≡◌, Bool, false, not, List, [], ◌∷◌, leb, length, drop, None}
use Rattle.base_words.specs.Blocks.{Bytes}
use Rattle.base_words.specs.Pick.{if◌then◌or_else◌}
use Rattle.base_words.specs.Words.{at, part}
use Rattle.xml_characters.specs.Names.{is_control}
use Rattle.xml_characters.specs.References.{character_of, is_character}
use Rattle.xml_markup.specs.declared.Cursor.{Cursor}
use Rattle.xml_markup.specs.declared.Scan.{Scan}
use Rattle.xml_markup.specs.declared.Scan.TheVariants.{Fault}
use Rattle.xml_markup.specs.declared.Whole.{Whole}
use Rattle.xml_markup.specs.declared.Whole.TheVariants.{Nothing, Attribute, Target, Reference}
use Rattle.xml_markup.specs.Tokens.{whole, moved, found_from, found, reserved}
use Rattle.xml_markup.specs.Markup.{scan_from}

-- a name's number: its bytes are the digits, from 1 on, so that different names have different numbers and a longer one has a greater one
unfoldable pub name_digit : ℕ → ℕ
name_digit b = b % 256 + 1

unfoldable pub name_number : List ℕ → ℕ → ℕ
name_number [] k = k
name_number (b ∷ w) k = name_number w (k * 257 + name_digit b)

abbrev pub key_of : Bytes → ℕ
key_of name = name_number name 0

-- a word that is kept: where a name of the text begins and ends; its number
abbrev pub kept_name : Bytes → ℕ → Bytes
kept_name t w = part t (w / 4294967296) (w % 4294967296)

unfoldable pub key_at : Bytes → ℕ → ℕ
key_at t w = key_of (kept_name t w)

-- the numbers of the first n words of a block stand in order; a number is one of them
abbrev pub Rising : (ℕ → ℕ) → List ℕ → ℕ → Type 0
Rising κ v n = (a b : ℕ) → a < b → b < n → κ (at v a) < κ (at v b)

abbrev pub Kept : (ℕ → ℕ) → List ℕ → ℕ → ℕ → Type 0
Kept κ v n k = (j : ℕ) × (j < n) × (κ (at v j) ≡ k)

-- where k stands among them, or should stand: not below `low`, not above `high`
pub record Between (κ : ℕ → ℕ) (v : List ℕ) (n k low high : ℕ) : Type 0 where
  pub order : low ≤ high
  pub within : high ≤ n
  pub below : Rising κ v n → (j : ℕ) → j < low → κ (at v j) < k
  pub above : Rising κ v n → (j : ℕ) → high ≤ j → j < n → k ≤ κ (at v j)

-- the word w put at the place r, and those from there on one place further
pub record Inserted (v : List ℕ) (n r w : ℕ) (u : List ℕ) : Type 0 where
  pub long : length u ≡ length v
  pub before : (j : ℕ) → j < r → at u j ≡ at v j
  pub here : at u r ≡ w
  pub behind : (j : ℕ) → r ≤ j → j < n → at u (j + 1) ≡ at v j

-- m numbers instead of n: all that were there, and k, which was not
pub record More (κ : ℕ → ℕ) (v : List ℕ) (n : ℕ) (u : List ℕ) (m : ℕ) : Type 0 where
  pub rising : Rising κ u m
  pub fits : m ≤ length u
  pub kept : (x : ℕ) → Kept κ v n x → Kept κ u m x

pub record With (κ : ℕ → ℕ) (k : ℕ) (v : List ℕ) (n : ℕ) (u : List ℕ) (m : ℕ) : Type 0 where
  pub is : Kept κ u m k
  pub was : Kept κ v n k → ⊥

-- no attribute of that name stands in the tag up to the place i
abbrev pub New : Bytes → ℕ → ℕ → Bytes → Type 0
New t start i name = found (part t 0 i) name start ≡ None

-- a search that comes to the place i without finding the name stands at the cursor c there
abbrev pub ReadTo : Bytes → ℕ → Cursor → ℕ → Type 0
ReadTo t start c i = (name : List ℕ) (m : ℕ) → i ≤ m → m ≤ length t → New t start i name → found (part t 0 m) name start ≡ found_from (part t 0 m) name c (drop i (part t 0 m)) i

-- one byte, where an attribute's name is not judged
unfoldable pub is_faulty_else : Whole → Bytes → ℕ → ℕ → Bool
is_faulty_else Nothing u start mark = false
is_faulty_else Attribute u start mark = false
is_faulty_else Target u start mark = reserved u start mark
is_faulty_else Reference u start mark = not (is_character (character_of (part u mark (length u))))

unfoldable pub tried : Bytes → ℕ → Cursor → ℕ → Scan
tried t start c i =
    if leb (length t) i then Fault i
    or_else if is_faulty_else (whole c.state (at t i)) (part t 0 i) start c.mark then Fault c.mark
    or_else if is_control (at t i) then Fault i
    or_else moved c (at t i) i (i + 1)

-- From the cursor c at p a tag is read to the cursor d at i, with the first n words of v the spans of its names: where none of them is a name before p, nothing is at fault up to there.
pub record Ahead (t : List ℕ) (start : ℕ) (c : Cursor) (p : ℕ) (v : List ℕ) (n : ℕ) (d : Cursor) (i : ℕ) : Type 0 where
  pub rising : Rising (key_at t) v n
  pub fits : n ≤ length v
  pub on : p ≤ i
  pub reached : ReadTo t start d i
  pub new : (name : List ℕ) → New t start p name → (Kept (key_at t) v n (key_of name) → ⊥) → New t start i name
  pub same : ((name : List ℕ) → Kept (key_at t) v n (key_of name) → New t start p name) → scan_from t start c (drop p t) p ≡ scan_from t start d (drop i t) i

pub record Sure (t : List ℕ) (start : ℕ) (c : Cursor) (p : ℕ) (d : Cursor) (i : ℕ) : Type 0 where
  pub on : p ≤ i
  pub reached : ReadTo t start d i
  pub same : scan_from t start c (drop p t) p ≡ scan_from t start d (drop i t) i
