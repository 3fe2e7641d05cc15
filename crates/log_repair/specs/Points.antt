-- Texts cut off at the boundary of each sentence, and what becomes of them: a row says what is tried, and names the text, the lent buffer, and what the repair gives.
use Rattle.std.specs.Prelude.{ℕ, List, [], ◌∷◌, ◌++◌, map, length}
use Prim.Native.String.{String}
use Rattle.base_words.specs.Text.{bytes}
use Rattle.log_repair.specs.Repair.{Repair}

pub record Point : Type 0 where
  pub says : String
  pub text : List ℕ
  pub out : List ℕ
  pub gives : Repair

-- a buffer of two bytes more than the log that is to come, and those two stay
abbrev gives : String → List ℕ → List ℕ → ℕ → ℕ → Point
gives s t w k d =
    record { says = s; text = t; out = map (λ b. 46) w ++ bytes "!!"; gives = record { number = 0; length = length w; kept = k; dropped = d; buffer = w ++ bytes "!!" } }

abbrev refuses : ℕ → String → List ℕ → List ℕ → Point
refuses n s t out = record { says = s; text = t; out = out; gives = record { number = n; length = 0; kept = 0; dropped = 0; buffer = out } }

abbrev lost : String → List ℕ → Point
lost s t = refuses 27 s t (bytes "..")

-- two whole events, and one that is not
abbrev a : List ℕ
a = bytes "<event><string key='concept:name' value='post 1:'/></event>"

abbrev b : List ℕ
b = bytes "<event><string value=\"1 0 0 0 0 -\" key=\"concept:name\"/></event >"

abbrev half : List ℕ
half = bytes "<event><string key='concept:name' value='post 1:'/>"

abbrev opened : List ℕ
opened = bytes "<log><trace>"

abbrev ended : List ℕ
ended = bytes "</trace></log>"

abbrev pub points : List Point
points =
    gives "an event, and a beginning behind it" (opened ++ (a ++ bytes " <ev")) (opened ++ (a ++ ended)) 1 4 ∷
    gives "no event: the trace's start tag" opened (opened ++ ended) 0 0 ∷
    gives "right behind an event: nothing is dropped, and it is closed" (opened ++ a) (opened ++ (a ++ ended)) 1 0 ∷
    gives "half an event goes" (opened ++ (a ++ half)) (opened ++ (a ++ ended)) 1 51 ∷
    gives "what is cut off is not judged" (opened ++ bytes "<event><string key='concept:name' value='nonsens") (opened ++ ended) 0 48 ∷
    gives "nor the name of an end tag" (opened ++ bytes "<event></even") (opened ++ ended) 0 13 ∷
    gives "behind the events the end tags come anew" (opened ++ (a ++ (b ++ bytes "</trace></lo"))) (opened ++ (a ++ (b ++ ended))) 2 12 ∷
    gives "in a comment behind the log too" (opened ++ (a ++ (ended ++ bytes "<!--x"))) (opened ++ (a ++ ended)) 1 19 ∷
    gives "blanks and comments before the last event stay" (bytes "<?xml?>\n<log>\n<trace>\n<!---->" ++ (a ++ bytes "\n ")) (bytes "<?xml?>\n<log>\n<trace>\n<!---->" ++ (a ++ ended)) 1 2 ∷
    gives "an empty trace is closed" (bytes "<log><trace/> <x") (bytes "<log><trace/></log>") 0 3 ∷
    gives "names as they stand" (bytes "<x:log\n><trace a='/'>" ++ (b ++ bytes "<")) (bytes "<x:log\n><trace a='/'>" ++ (b ++ bytes "</trace></x:log>")) 1 1 ∷
    gives "a complete log comes out as it is" (opened ++ (a ++ (ended ++ bytes "<!--x-->\n"))) (opened ++ (a ++ (ended ++ bytes "<!--x-->\n"))) 1 0 ∷
    gives "and so does what came out" (opened ++ (a ++ ended)) (opened ++ (a ++ ended)) 1 0 ∷
    lost "the trace's start tag cut off" (bytes "<log><trace") ∷
    lost "nothing" [] ∷
    lost "no trace" (bytes "<log></log>") ∷
    lost "before the root" (bytes "<?xml?><!--") ∷
    lost "text between events" (opened ++ bytes "x") ∷
    lost "a wrong line in a whole event" (opened ++ (bytes "<event><string key='concept:name' value='hello'/></event>" ++ ended)) ∷
    lost "a second trace" (bytes "<log><trace/><trace/>") ∷
    refuses 5 "a byte of room too few" (opened ++ (a ++ bytes " ")) (map (λ c. 46) (opened ++ (a ++ bytes "</trace></log"))) ∷
    refuses 5 "a complete log needs its length" (bytes "<log><trace/></log>") (bytes "..................") ∷
    refuses 27 "27 goes before 5" (bytes "<log><trace") [] ∷ []
