-- How often something stands in one element el: what the model checks count.
use Rattle.std.specs.Prelude.{Bool, true, ◌&&◌, ℕ, ◌+◌, eqb, leb, ltb}
use Rattle.base_words.specs.Blocks.{Block, Element}
use Rattle.base_words.specs.All.{all}
use Rattle.base_words.specs.Pick.{if◌then◌or_else◌}
use Rattle.base_words.specs.Sum.{sum, hit, one_if}
use Rattle.base_words.specs.Words.{at}
use Rattle.base_words.specs.Counts.{fields_named}
use Rattle.base_kinds.specs.Kinds.{kind_of, used, start}
use Rattle.base_table.specs.Places.{operand_number, form_place, left_place, binding, default}
use Rattle.base_table.specs.Table.{kind_in, task_in, entry_count, exit_count, entry_at, exit_at, condition_at, message_name, message_length, item_at}

-- how many conditions it has, and messages that it receives or sends: none, one, or one with each exit
unfoldable pub condition_count : Element → ℕ
condition_count el = used (kind_of (kind_in el)).conditions (exit_count el)

unfoldable pub received_count : Element → ℕ
received_count el = used (kind_of (kind_in el)).receives (exit_count el)

unfoldable pub sent_count : Element → ℕ
sent_count el = used (kind_of (kind_in el)).sends (exit_count el)

-- it is of kind k
unfoldable pub of_kind : ℕ → Element → ℕ
of_kind k el = hit (kind_in el) k

-- the edge e as an exit, as an entry, as the first edge of a `start`
unfoldable pub as_exit : ℕ → Element → ℕ
as_exit e el = sum (λ j. hit (exit_at el j) e) (exit_count el)

unfoldable pub as_entry : ℕ → Element → ℕ
as_entry e el = sum (λ j. hit (entry_at el j) e) (entry_count el)

unfoldable pub as_first : ℕ → Element → ℕ
as_first e el = one_if (eqb (kind_in el) start && eqb (entry_at el 0) e)

-- the task number n (0 where there is no task)
unfoldable pub as_task : ℕ → Element → ℕ
as_task n el = hit (task_in el) n

-- the message name m, received or sent
unfoldable pub as_received : ℕ → Element → ℕ
as_received m el = sum (λ j. hit (message_name el j) m) (received_count el)

unfoldable pub as_sent : ℕ → Element → ℕ
as_sent m el = sum (λ j. hit (message_name el j) m) (sent_count el)

-- a default among the conditions (only an xorSplit has several)
abbrev pub condition_form : Element → ℕ → ℕ
condition_form el j = at (condition_at el j) form_place

unfoldable pub is_default : Element → ℕ → ℕ
is_default el j = hit (condition_form el j) default

unfoldable pub defaults : Element → ℕ
defaults el = sum (is_default el) (condition_count el)

unfoldable pub default_once : Element → Bool
default_once el = leb (defaults el) 1

-- the field d bound by an item x, and in template j
unfoldable pub binds_field : ℕ → Block → ℕ
binds_field d x = one_if (eqb (at x form_place) binding && eqb (at x (left_place + operand_number)) d)

unfoldable pub times_bound : Element → ℕ → ℕ → ℕ
times_bound el j d = sum (λ i. binds_field d (item_at el j i)) (message_length el j)

unfoldable pub template_once : Element → ℕ → Bool
template_once el j = all (λ d. leb (times_bound el j d) 1) fields_named

-- item i of template j binds no field that an item before it binds
unfoldable pub binds_anew : Element → ℕ → ℕ → Bool
binds_anew el j i =
    if eqb (at (item_at el j i) form_place) binding
    then (if ltb (at (item_at el j i) (left_place + operand_number)) fields_named
    then eqb (sum (λ k. binds_field (at (item_at el j i) (left_place + operand_number)) (item_at el j k)) i) 0
    or_else true)
    or_else true

unfoldable pub bound_once : Element → Bool
bound_once el = all (template_once el) (received_count el)
