-- What is read has room in a table: at most 4 pools, at most 32 elements in each, and an element's words are as many as a table keeps for one. Assumes nothing.
use Prim.Native.Nat.{ℕ}
use mathlib.Core.Path.{◌≡◌, refl, ◌∙◌}
use mathlib.Core.Bool.{Bool, true, false}
use mathlib.Core.List.{List, [], ◌∷◌}
use lib.Dec.{eqb}
use lib.ListN.{length, replicate, length-replicate}
use Rattle.base_words.specs.Pick.{if◌then◌or_else◌}
use Rattle.base_words.specs.Counts.{pools, elements}
use Rattle.base_table.specs.Places.{element_words}
use Rattle.text_lexer.specs.declared.Form.{Form}
use Rattle.text_lexer.specs.declared.Form.TheVariants.{Word, Sign, Assign, End, Other}
use Rattle.text_lexer.specs.Lexer.{token_at, if_word}
use Rattle.std.specs.declared.result.Result.TheVariants.{Ok, Err}
use Rattle.text_readers.specs.Reading.{Read, Parsed, if_at, place_of, behind, letters}
use Rattle.text_elements.specs.Elements.{starts_element}
use Rattle.text_elements.proofs.LengthLaws.{element_keeps}
use Rattle.check_model.specs.Checks.{Pool}
use Rattle.text_passes.specs.Model.{Got, element_alone, elements_at, pool_word, opening, closing, unread, closed, inside_pool, pool_of_word, pool, starts_pool, pools_at, model}
use Rattle.text_passes.proofs.BarLaws.{barred_all}
use Rattle.text_passes.proofs.FillLaws.{AtMost, none, some, Block, Fits}

pub element_long : (text : List ℕ) (at : ℕ) → Block (element_alone text at).value
unfolding element_alone
element_long text at = element_keeps text at (replicate element_words 0) ∙ length-replicate {A = ℕ} element_words 0

elements_fit : (text : List ℕ) (at : ℕ) → AtMost Block elements (elements_at text at).value
unfolding elements_at
elements_fit text at = barred_all element_alone starts_element text (AtMost Block) (λ m. none) (λ m a xs h. some (element_long text a) h) elements at

-- a pool, by the choices on the way
either : (b : Bool) (g h : Got Pool) → Fits g.value → Fits h.value → Fits (if b then g or_else h).value
unfolding if◌then◌or_else◌
either true g h f e = f
either false g h f e = e

worded : (f : Form) (g h : Got Pool) → Fits g.value → Fits h.value → Fits (if_word f g h).value
unfolding if_word
worded Word g h a b = a
worded (Sign s) g h a b = b
worded Assign g h a b = b
worded End g h a b = b
worded Other g h a b = b

placed : (r : Read) (go : ℕ → Got Pool) (h : Got Pool) → ((q : ℕ) → Fits (go q).value) → Fits h.value → Fits (if_at r go h).value
unfolding if_at
placed (Ok q) go h a b = a q
placed (Err e) go h a b = b

inside_fits : (k : ℕ) (text : List ℕ) (h : Parsed) → Fits (inside_pool k text h).value
unfolding inside_pool closed
inside_fits k text h = placed h.end _ _ (λ a. placed (elements_at text a).end _ _ (λ c. elements_fit text a) none) none

pool_fits_lem : (text : List ℕ) (at : ℕ) → Fits (pool text at).value
unfolding pool pool_of_word
pool_fits_lem text at =
    worded (token_at text at).form _ _
    (either (eqb (pool_word (letters text at)) 0) _ _ none (inside_fits (pool_word (letters text at)) text (opening text (behind text at) (0 ∷ 0 ∷ []))))
    none

pub model_fits : (text : List ℕ) → AtMost Fits pools (model text).value
unfolding model pools_at
model_fits text = barred_all pool starts_pool text (AtMost Fits) (λ m. none) (λ m a ps h. some (pool_fits_lem text a) h) pools 0
