-- THE MODEL that a text means, and its table.
use Prim.Native.Char.{code}
use Rattle.std.specs.Prelude.{ℕ, zero, suc, ◌+◌, ◌-◌, ◌*◌, Bool, true, false, not, List, [], ◌∷◌, ◌++◌, map, eqb, length, replicate}
use Rattle.base_words.specs.Blocks.{Block, Bytes, Table, Element}
use Rattle.base_words.specs.Pick.{if◌then◌or_else◌}
use Rattle.base_words.specs.Text.{bytes}
use Rattle.base_words.specs.Words.{at}
use Rattle.base_words.specs.Counts.{pools, elements, pool_numbers, instances}
use Rattle.base_table.specs.Places.{limit_in, element_words, pool_words}
use Rattle.text_lexer.specs.Lexer.{token_at, if_word}
use Rattle.base_bytes.specs.Bytes.{same_bytes}
use Rattle.std.specs.declared.result.Result.TheVariants.{Ok}
use Rattle.text_readers.specs.Reading.{Read, Refused, Parsed, Reader, misplaced, if_at, ◌then◌, place_of, behind, letters, sign_at, end_at, sign, number}
use Rattle.text_bounds.specs.Bounds.{one_too_many}
use Rattle.text_elements.specs.Elements.{element, starts_element}
use Rattle.check_model.specs.Checks.{Pool}

-- what was read, and where reading ended
pub record Got (A : Type 0) : Type 0 where
  pub end : Read
  pub value : A

-- one thing before others
unfoldable pub put_before : {A : Type 0} → A → Got (List A) → Got (List A)
put_before x r = record { end = r.end; value = x ∷ r.value }

-- things with bars between them, where n more are allowed
unfoldable pub barred : {A : Type 0} → (List ℕ → ℕ → Got A) → (List ℕ → ℕ → Bool) → ℕ → List ℕ → ℕ → Got (List A)
barred thing starting zero text at = record { end = one_too_many (starting text at) (place_of text at); value = [] }
barred thing starting (suc n) text at =
    if_at (thing text at).end
    (λ q.
    if_at (sign_at (code "|") text q)
    (λ a. put_before (thing text at).value (barred thing starting n text a))
    (record { end = Ok q; value = (thing text at).value ∷ [] }))
    (record { end = (thing text at).end; value = [] })

-- an element by itself, and the 1 to 32 of a pool
unfoldable pub element_alone : Bytes → ℕ → Got (List ℕ)
element_alone text at = record { end = (element text at (replicate element_words 0)).end; value = (element text at (replicate element_words 0)).words }

unfoldable pub elements_at : List ℕ → ℕ → Got (List (List ℕ))
elements_at = barred element_alone starts_element elements

-- "A pool is `pool(p,P)` or `miPool(p,P,n)`": 1 or 2, and 0 for any other word (RULES: reading)
abbrev pub plain : ℕ
plain = 1

abbrev pub multiple : ℕ
multiple = 2

unfoldable pub pool_word : Bytes → ℕ
pool_word w = if same_bytes w (bytes "pool") then plain or_else if same_bytes w (bytes "miPool") then multiple or_else 0

-- p, and n, stored as the first words of a pool
unfoldable pub opening : Reader
opening = sign (code "(") then number 1 pool_numbers 0 then sign (code ",")

unfoldable pub closing : ℕ → Reader
closing k = if eqb k plain then sign (code ")") or_else sign (code ",") then number 1 instances limit_in then sign (code ")")

abbrev pub no_pool : Pool
no_pool = record { number = 0; limit = 0; elements = [] }

abbrev pub unread : Read → Got Pool
unread end = record { end = end; value = no_pool }

unfoldable pub closed : Parsed → List Element → Got Pool
closed r els = record { end = r.end; value = record { number = at r.words 0; limit = at r.words limit_in; elements = els } }

unfoldable pub inside_pool : ℕ → Bytes → Parsed → Got Pool
inside_pool k text h =
    if_at h.end
    (λ a. if_at (elements_at text a).end (λ c. closed (closing k text c h.words) (elements_at text a).value) (unread (elements_at text a).end))
    (unread h.end)

unfoldable pub pool_of_word : ℕ → Bytes → ℕ → ℕ → Got Pool
pool_of_word k text p q = if eqb k 0 then unread (Refused misplaced p) or_else inside_pool k text (opening text q (0 ∷ 0 ∷ []))

unfoldable pub pool : Bytes → ℕ → Got Pool
pool text at =
    if_word (token_at text at).form
    (pool_of_word (pool_word (letters text at)) text (place_of text at) (behind text at))
    (unread (Refused misplaced (place_of text at)))

unfoldable pub starts_pool : Bytes → ℕ → Bool
starts_pool text at = if_word (token_at text at).form (not (eqb (pool_word (letters text at)) 0)) false

-- a text: 1 to 4 pools, and its end
unfoldable pub pools_at : List ℕ → ℕ → Got (List Pool)
pools_at = barred pool starts_pool pools

unfoldable pub model : Bytes → Got (List Pool)
model text = record { end = if_at (pools_at text 0).end (end_at text) (pools_at text 0).end; value = (pools_at text 0).value }

-- THE TABLE of a model: the count of its pools; of each its number, its limit, the count of its elements, and their words; 0 behind them
unfoldable pub flat : List (List ℕ) → Block
flat [] = []
flat (x ∷ xs) = x ++ flat xs

unfoldable pub filled : ℕ → Element → Block
filled n x = x ++ replicate (n - length x) 0

unfoldable pub pool_table : Pool → Block
pool_table p = p.number ∷ p.limit ∷ length p.elements ∷ filled (element_words * elements) (flat p.elements)

unfoldable pub table_of : List Pool → Table
table_of ps = length ps ∷ filled (pool_words * pools) (flat (map pool_table ps))
