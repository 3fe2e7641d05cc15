-- AN ENTRY OF A LOG: "`P I E F B T`, one blank between: five numbers, and T is `-`, `!M:V` or `?M:V`; or `post M:V`. V is values joined by commas, possibly none." w is its bytes. (RULES: entries)
use Prim.Native.Char.{code}
use Rattle.std.specs.Prelude.{ℕ, zero, suc, ◌+◌, Bool, true, false, ◌&&◌, leb, ltb, eqb, length, set}
use Rattle.base_words.specs.Blocks.{Bytes}
use Rattle.base_words.specs.Pick.{if◌then◌or_else◌}
use Rattle.base_words.specs.Text.{bytes}
use Rattle.base_words.specs.Words.{at, part, one_more}
use Rattle.meaning.specs.declared.Name.{Name}
use Rattle.meaning.specs.declared.Tuple.{Tuple}
use Rattle.meaning.specs.Tuples.{empty}
use Rattle.text_numerals.specs.declared.Number.{Number}
use Rattle.text_numerals.specs.declared.Number.TheVariants.{Value, TooLarge, NotANumber}
use Rattle.text_numerals.specs.Numerals.{number_of, if_value}
use Rattle.base_bytes.specs.Bytes.{same_bytes}
use Rattle.xml_markup.specs.declared.Class.TheVariants.{Value as NotByte}
use Rattle.xml_markup.specs.Markup.{begins_at}
use Rattle.xml_markup.specs.Spans.{run, after}
use Rattle.log_lines.specs.declared.Numbered.{Numbered}
use Rattle.log_lines.specs.declared.Given.{Given}
use Rattle.log_lines.specs.declared.Message.{Message}
use Rattle.log_lines.specs.declared.Placed.{Placed}
use Rattle.log_lines.specs.declared.Entry.{Entry}

-- "P I E F B M 0 to 65,535" (RULES: entries)
abbrev pub number_most : ℕ
number_most = 65535

-- the piece from p up to the byte c, or to the end, as a number
unfoldable pub number_up_to : ℕ → Bytes → ℕ → Number
number_up_to c w p = number_of (part w p (run (NotByte c) w p))

unfoldable pub is_small : Number → Bool
is_small (Value v) = leb v number_most
is_small TooLarge = false
is_small NotANumber = false

unfoldable pub value_in : Number → ℕ
value_in (Value v) = v
value_in TooLarge = 0
value_in NotANumber = 0

-- a number with the byte c behind it, and the place behind that
unfoldable pub number_before : ℕ → Bytes → ℕ → Numbered
number_before c w p =
    record {
      right = is_small (number_up_to c w p) && ltb (run (NotByte c) w p) (length w);
      value = value_in (number_up_to c w p);
      next = after w (run (NotByte c) w p);
    }

abbrev pub given : Bool → Tuple → Given
given b g = record { right = b; tuple = g }

-- one value more: "any count of values"; those behind the fourth are counted only (RULES: entries)
unfoldable pub added : Tuple → ℕ → Tuple
added g v = record { length = one_more g.length; values = set g.values g.length v }

-- "values joined by commas", from p on, behind those of g, in n steps at most (RULES: entries)
unfoldable pub values_in : ℕ → Bytes → ℕ → Tuple → Given
values_in zero w p g = given false empty
values_in (suc n) w p g =
    if_value (number_up_to (code ",") w p)
    (λ v. if leb (length w) (run (NotByte (code ",")) w p) then given true (added g v) or_else values_in n w (run (NotByte (code ",")) w p + 1) (added g v))
    (given false empty)

-- "possibly none"; each value passes a byte, so the entry's length is enough steps
unfoldable pub values_from : Bytes → ℕ → Given
values_from w p = if leb (length w) p then given true empty or_else values_in (length w) w p empty

-- "M:V"
unfoldable pub message_from : Bytes → ℕ → Message
message_from w p =
    record {
      right = (number_before (code ":") w p).right && (values_from w (number_before (code ":") w p).next).right;
      name = (number_before (code ":") w p).value;
      tuple = (values_from w (number_before (code ":") w p).next).tuple;
    }

-- T from p on, and the values that the step is named with: "a line with `?M:V` is the step with the values V; any other is the step without values" (RULES: entries)
unfoldable pub traffic_from : Bytes → ℕ → Given
traffic_from w p =
    if same_bytes (part w p (length w)) (bytes "-") then given true empty
    or_else if eqb (at w p) (code "!") then given (message_from w (after w p)).right empty
    or_else if eqb (at w p) (code "?") then given (message_from w (after w p)).right (message_from w (after w p)).tuple
    or_else given false empty

-- where the k-th of the numbers stands, and the number
unfoldable pub number_place : Bytes → ℕ → ℕ
number_place w zero = 0
number_place w (suc k) = (number_before (code " ") w (number_place w k)).next

unfoldable pub number_at : Bytes → ℕ → Numbered
number_at w k = number_before (code " ") w (number_place w k)

-- the five numbers of a step, whether they are numbers, and the step's name
unfoldable pub five_placed : Bytes → Placed
five_placed w = record { pool = number_at w 0; instance = number_at w 1; element = number_at w 2; phase = number_at w 3; branch = number_at w 4 }

unfoldable pub all_right : Placed → Bool
all_right n = n.pool.right && (n.instance.right && (n.element.right && (n.phase.right && n.branch.right)))

abbrev pub name_of : Placed → Tuple → Name
name_of n g =
    record {
      pool = n.pool.value;
      instance = n.instance.value;
      element = n.element.value;
      phase = n.phase.value;
      branch = n.branch.value;
      given = g;
    }

-- no line: nothing else is said of it
abbrev pub no_entry : Entry
no_entry = record { right = false; posts = false; name = record { pool = 0; instance = 0; element = 0; phase = 0; branch = 0; given = empty } }

unfoldable pub step_entry : Bytes → Entry
step_entry w =
    if all_right (five_placed w) && (traffic_from w (number_place w 5)).right then
    record { right = true; posts = false; name = name_of (five_placed w) (traffic_from w (number_place w 5)).tuple }
    or_else no_entry

-- a post has its message's name in place of the pool
abbrev pub post_name : Message → Name
post_name m = record { pool = m.name; instance = 0; element = 0; phase = 0; branch = 0; given = m.tuple }

unfoldable pub post_entry : Bytes → Entry
post_entry w = if (message_from w 5).right then record { right = true; posts = true; name = post_name (message_from w 5) } or_else no_entry

unfoldable pub entry_of : Bytes → Entry
entry_of w = if begins_at w 0 (bytes "post ") then post_entry w or_else step_entry w
