-- Bytes that are passed together, because each of them only goes on: it shows no token to be whole, is no control, and does not end the markup.
use Rattle.std.specs.Prelude.{ℕ, ◌+◌, ◌<◌, ◌≡◌, false, length}
use Rattle.base_words.specs.Blocks.{Bytes}
use Rattle.base_words.specs.Words.{at}
use Rattle.xml_characters.specs.Names.{is_control}
use Rattle.xml_markup.specs.declared.Cursor.{Cursor}
use Rattle.xml_markup.specs.declared.Scan.TheVariants.{On}
use Rattle.xml_markup.specs.declared.Whole.TheVariants.{Nothing}
use Rattle.xml_markup.specs.Tokens.{whole, moved}

-- from the cursor c at the place i to the cursor d at j
pub data Leads (t : Bytes) : Cursor → ℕ → Cursor → ℕ → Type 0 where
  here : {c : Cursor} {i : ℕ} → Leads t c i c i
  byte : {c d : Cursor} {i j : ℕ} (next : Cursor) → i < length t → whole c.state (at t i) ≡ Nothing → is_control (at t i) ≡ false
      → moved c (at t i) i (i + 1) ≡ On next → Leads t next (i + 1) d j → Leads t c i d j
