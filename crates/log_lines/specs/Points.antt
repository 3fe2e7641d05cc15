-- Lines tried at the boundary of each sentence: those that name a step or a post, with what they name, and those that are none.
use Rattle.std.specs.Prelude.{ℕ, Bool, true, false, List, [], ◌∷◌}
use Prim.Native.String.{String}
use Rattle.base_words.specs.Text.{bytes}
use Rattle.meaning.specs.declared.Tuple.{Tuple}
use Rattle.meaning.specs.Tuples.{empty}
use Rattle.log_lines.specs.declared.Entry.{Entry}

pub record Line : Type 0 where
  pub says : String
  pub line : List ℕ
  pub is : Entry

abbrev entry : Bool → ℕ → ℕ → ℕ → ℕ → ℕ → Tuple → Entry
entry posts p i e f b g = record { right = true; posts = posts; name = record { pool = p; instance = i; element = e; phase = f; branch = b; given = g } }

abbrev step : String → String → ℕ → ℕ → ℕ → ℕ → ℕ → Tuple → Line
step s w p i e f b g = record { says = s; line = bytes w; is = entry false p i e f b g }

abbrev post : String → String → ℕ → Tuple → Line
post s w m g = record { says = s; line = bytes w; is = entry true m 0 0 0 0 g }

abbrev values : ℕ → ℕ → ℕ → ℕ → ℕ → Tuple
values n a b c d = record { length = n; values = a ∷ b ∷ c ∷ d ∷ [] }

abbrev pub lines : List Line
lines =
    step "nothing sent or consumed" "1 0 0 0 0 -" 1 0 0 0 0 empty ∷
    step "a message sent: the step is without values" "1 0 2 1 0 !3:7,9" 1 0 2 1 0 empty ∷
    step "sent, no values" "1 0 1 0 0 !3:" 1 0 1 0 0 empty ∷
    step "a message consumed: the step with its values" "2 1 0 0 4 ?3:7,9" 2 1 0 0 4 (values 2 7 9 0 0) ∷
    step "consumed, no values" "2 0 0 0 0 ?3:" 2 0 0 0 0 empty ∷
    step "numbers to 65,535" "65535 65535 65535 65535 65535 ?65535:65535" 65535 65535 65535 65535 65535 (values 1 65535 0 0 0) ∷
    step "a name above 15 is judged" "9 0 0 0 0 !16:" 9 0 0 0 0 empty ∷
    step "five values are judged: counted, four are kept" "2 0 0 0 0 ?3:1,2,3,4,5" 2 0 0 0 0 (values 5 1 2 3 4) ∷
    post "a post" "post 3:7" 3 (values 1 7 0 0 0) ∷
    post "no values" "post 3:" 3 empty ∷
    post "zeros" "post 0:0,0" 0 (values 2 0 0 0 0) ∷
    post "a name above 15 is judged" "post 16:" 16 empty ∷
    post "five values" "post 3:1,2,3,4,5" 3 (values 5 1 2 3 4) ∷ []

pub record Other : Type 0 where
  pub says : String
  pub line : List ℕ

abbrev other : String → String → Other
other s w = record { says = s; line = bytes w }

abbrev pub others : List Other
others =
    other "empty" "" ∷
    other "a word" "hello" ∷
    other "the run's last line" "steps 7 left 0" ∷
    other "four numbers" "1 0 0 0 -" ∷
    other "six numbers" "1 0 0 0 0 0 -" ∷
    other "nothing behind the numbers" "1 0 0 0 0 " ∷
    other "no blank behind the numbers" "1 0 0 0 0" ∷
    other "two blanks" "1 0 0  0 0 -" ∷
    other "a blank first" " 1 0 0 0 0 -" ∷
    other "a blank behind" "1 0 0 0 0 - " ∷
    other "a newline behind" "1 0 0 0 0 -\n" ∷
    other "a tab is no blank" "1 0 0 0\t0 -" ∷
    other "a reference is not worked out" "1 0 0 0 0 &#45;" ∷
    other "a message without a sign" "1 0 0 0 0 3:7" ∷
    other "a sign alone" "1 0 0 0 0 !" ∷
    other "no name" "1 0 0 0 0 ?:7" ∷
    other "no colon" "1 0 0 0 0 !3" ∷
    other "a blank before the values" "1 0 0 0 0 ?3: 7" ∷
    other "a leading zero" "01 0 0 0 0 -" ∷
    other "two zeros" "1 0 0 0 00 -" ∷
    other "a leading zero of a name" "1 0 0 0 0 !03:" ∷
    other "a leading zero of a value" "1 0 0 0 0 !3:07" ∷
    other "a pool above 65,535" "65536 0 0 0 0 -" ∷
    other "a branch above 65,535" "1 0 0 0 65536 -" ∷
    other "a name above 65,535" "1 0 0 0 0 !65536:" ∷
    other "a value above the greatest" "1 0 0 0 0 !3:99999999999" ∷
    other "the same, consumed" "2 0 0 0 0 ?3:7,99999999999" ∷
    other "a comma behind" "1 0 0 0 0 !3:7," ∷
    other "a comma before" "1 0 0 0 0 !3:,7" ∷
    other "a post without a message" "post " ∷
    other "without a blank" "post3:7" ∷
    other "with two" "post  3:7" ∷
    other "without a colon" "post 3" ∷
    other "a blank behind a post" "post 3:7 " ∷
    other "a post's name above 65,535" "post 65536:" ∷
    other "a post's value above the greatest" "post 3:99999999999" ∷
    other "its leading zero" "post 3:07" ∷
    other "its comma behind" "post 3:7," ∷
    other "letter case counts" "Post 3:7" ∷ []
