-- Points of document 01 beside the starred ones: the notation, the listing, the run, the writing. One table; each row says in
-- the document's words what is tried, and tries it on the definitions. (RULES: reading)
use Rattle.std.specs.Prelude.{ℕ, ◌+◌, ◌-◌, Bool, true, false, ◌&&◌, List, [], ◌∷◌, ◌++◌, map, eqb, replicate}
use Prim.Native.String.{String}
use Rattle.base_words.specs.Each.{joined}
use Rattle.base_words.specs.Text.{bytes}
use Rattle.base_words.specs.Counts.{text_most, elements, pools, values}
use Rattle.base_state.specs.Places.{instance_words, queue_words}
use Rattle.base_state.specs.Instances.{with_tokens, with_active}
use Rattle.meaning.specs.declared.Tuple.{Tuple}
use Rattle.meaning.specs.declared.Name.{Name}
use Rattle.meaning.specs.Tuples.{empty, same_tuple}
use Rattle.meaning.specs.Queues.{with_messages}
use Rattle.base_bytes.specs.Bytes.{same_bytes}
use Rattle.text_read.specs.Notation.{read_into, element_alone, model, table_of, rewritten}
use Rattle.step_list.specs.Listing.{listed, chosen}
use Rattle.step_run.specs.Run.{Run, ran}
use Rattle.write_shown.specs.Shown.{shown_table}

pub record Point : Type 0 where
  pub says : String
  pub holds : Bool

infix 70 ◌shown_by◌
abbrev ◌shown_by◌ : String → Bool → Point
s shown_by b = record { says = s; holds = b }

-- READING a text: refused with a number and what stands beside it, or read
infix 20 ◌gives◌beside◌
abbrev ◌gives◌beside◌ : List ℕ → ℕ → ℕ → Bool
text gives n beside k = eqb (read_into text []).number n && eqb (read_into text []).beside k

abbrev refused : String → ℕ → ℕ → Bool
refused text n k = bytes text gives n beside k

abbrev read : String → Bool
read text = eqb (read_into (bytes text) []).number 0

-- n pieces of a text, one behind the other
abbrev repeated : String → ℕ → List ℕ
repeated piece n = joined (λ k. bytes piece) n

-- WORDS OF A TABLE: an element by its text; one pool with its number, limit, count of elements and their words
abbrev words : String → List ℕ
words text = (element_alone (bytes text) 0).value

abbrev pool : ℕ → ℕ → ℕ → List ℕ → List ℕ
pool number limit count els = 1 ∷ number ∷ limit ∷ count ∷ els

-- WORDS OF A STATE: an instance with tokens on an edge; how many instances are made, and the first; messages under name 0
abbrev tokens : ℕ → ℕ → List ℕ
tokens e n = with_tokens (replicate instance_words 0) e n

abbrev made : ℕ → List ℕ → List ℕ
made n h = n ∷ (replicate (pools - 1) 0 ++ h)

abbrev one : ℕ → Tuple
one v = record { length = 1; values = v ∷ replicate (values - 1) 0 }

abbrev queue : List Tuple → List ℕ
queue ms = with_messages (replicate queue_words 0) 0 ms

-- THE LISTING is these steps of pool 1, each by instance, element, phase, branch and values
abbrev step : ℕ → ℕ → ℕ → ℕ → Tuple → Name
step i e phase branch given = record { pool = 1; instance = i; element = e; phase = phase; branch = branch; given = given }

abbrev same_step : Name → Name → Bool
same_step x y =
    eqb x.pool y.pool
    && eqb x.instance y.instance
    && eqb x.element y.element
    && eqb x.phase y.phase
    && eqb x.branch y.branch
    && same_tuple x.given y.given

abbrev listed_as : List Name → List Name → Bool
listed_as [] [] = true
listed_as [] (y ∷ ys) = false
listed_as (x ∷ xs) [] = false
listed_as (x ∷ xs) (y ∷ ys) = same_step x y && listed_as xs ys

-- THE RUN: the steps taken, and 1 or 0 for whether one is still accepted
abbrev ran_to : Run → ℕ → ℕ → Bool
ran_to r steps left = eqb r.steps steps && eqb r.left left

-- WRITING the table of a text
abbrev writes : String → String → Bool
writes text written = same_bytes (shown_table (table_of (map rewritten (model (bytes text)).value))) (bytes written)

abbrev pub points : List Point
points =
    "Blank, tab and newline may stand between tokens" shown_by read " pool\t( 1\n,start(1,2)|end(2) )\n" ∷
    "a carriage return starts no token: 2 at that byte" shown_by refused "pool(1,\r" 2 7 ∷
    "a text that ends: 2 at its length" shown_by refused "pool(1,  " 2 9 ∷
    "the empty text: 2 at 0" shown_by refused "" 2 0 ∷
    "a word is the longest run: `pool1` is 2 at its first byte" shown_by refused "pool1(1," 2 0 ∷
    "a keyword is compared whole: `starts` is none" shown_by refused "pool(1,starts(1,2))" 2 7 ∷
    "letter case included: `Pool` is none" shown_by refused "Pool(1," 2 0 ∷
    "`:=` is one token: `3:=<>` is 2 at it" shown_by refused "pool(1,endSnd(2,3:=<>))" 2 17 ∷
    "`? d3` is good: two tokens" shown_by read "pool(1,startRcv(3:<? d3>,1)|end(1))" ∷
    "`?7` is 2 at the 7" shown_by refused "pool(1,startRcv(3:<?7>" 2 20 ∷
    "`d16` is 3 at the d" shown_by refused "pool(1,task(2,1,a,d16=1" 3 18 ∷
    "`d01` is 2" shown_by refused "pool(1,task(2,1,a,d01=1" 2 18 ∷
    "`s16` is 3 at the s" shown_by refused "pool(1,task(2,1,a,s16=1" 3 18 ∷
    "bound too" shown_by refused "pool(1,startRcv(3:<?s16>" 3 20 ∷
    "`s01` is 2" shown_by refused "pool(1,task(2,1,a,s01=1" 2 18 ∷
    "`S1` is 2" shown_by refused "pool(1,task(2,1,a,S1=1" 2 18 ∷
    "`s` is 2" shown_by refused "pool(1,task(2,1,a,s=1" 2 18 ∷
    "a store where no field may stand is 2" shown_by refused "pool(1,start(s1" 2 13 ∷
    "a store is bound, compared and assigned as a field is" shown_by read "pool(1,startRcv(3:<?s3>,1)|task(1,1,a,s3=d3,{s3:=s15-1},2)|end(2))" ∷
    "one template may bind `d1` and `s1`" shown_by read "pool(1,startRcv(3:<?d1,?s1>,1)|end(1))" ∷
    "`<?s1,?s1>` breaks check 8" shown_by refused "pool(1,startRcv(3:<?s1,?s1>,1)|end(1))" 4 8 ∷
    "edge 0 is 3" shown_by refused "pool(1,start(0,2))" 3 13 ∷
    "edge 49 is 3, whatever follows" shown_by refused "pool(1,start(1,49;;" 3 15 ∷
    "numbers have no leading zeros: `01` is 2" shown_by refused "pool(1,start(01,2))" 2 13 ∷
    "4,294,967,296 is 3" shown_by refused "pool(1,task(2,1,a,4294967296=1" 3 18 ∷
    "4,294,967,295 is read, and 65,536" shown_by read "pool(1,start(1,2)|task(2,1,a,4294967295=65536,{},3)|end(3))" ∷
    "`d4294967295` is 3 at the d" shown_by refused "pool(1,task(2,1,a,d4294967295=1" 3 18 ∷
    "an edge's range stays: 65,536 is 3" shown_by refused "pool(1,start(1,65536" 3 15 ∷
    "a number of any length above its range is 3" shown_by refused "pool(1,task(2,1,a,99999999999999999999=1" 3 18 ∷
    "task 17 is 3" shown_by refused "pool(1,task(2,17," 3 14 ∷
    "message name 16 is 3" shown_by refused "pool(1,endSnd(2,16:" 3 16 ∷
    "pool number 10 is 3" shown_by refused "pool(10," 3 5 ∷
    "n 17 is 3" shown_by refused "miPool(1,startRcv(3:<>,1)|end(1),17)" 3 33 ∷
    "a list that closes too early is 2 at the closing sign: `{3}`" shown_by refused "pool(1,andSplit(2,{3}))" 2 20 ∷
    "`{3,}` is 2 at the closing sign" shown_by refused "pool(1,andSplit(2,{3,}))" 2 21 ∷
    "one branch is 2 at the closing sign" shown_by refused "pool(1,xorSplit(2,{(3,true)}))" 2 27 ∷
    "eventBased with one branch is 2 at its own closing sign" shown_by refused "pool(1,eventBased(2,(3:<>,3)))" 2 28 ∷
    "the ninth edge is 3 at it" shown_by refused "pool(1,andSplit(2,{1,2,3,4,5,6,7,8,9" 3 35 ∷
    "where it is no number, 2" shown_by refused "pool(1,andSplit(2,{1,2,3,4,5,6,7,8,d1" 2 35 ∷
    "the ninth branch is 3 at its sign" shown_by refused "pool(1,eventBased(2,(3:<>,3),(3:<>,3),(3:<>,3),(3:<>,3),(3:<>,3),(3:<>,3),(3:<>,3),(3:<>,3),(" 3 92 ∷
    "a fifth template item that starts with `?` is 3 at it" shown_by refused "pool(1,startRcv(3:<1,1,1,1,?d0>" 3 27 ∷
    "a fifth message item that starts with `?` is 2" shown_by refused "pool(1,endSnd(2,3:<1,1,1,1,?d0>" 2 27 ∷
    "a fifth message item is 3" shown_by refused "pool(1,endSnd(2,3:<1,1,1,1,d0>" 3 27 ∷
    "a fifth item that starts with a store is 3" shown_by refused "pool(1,startRcv(3:<1,1,1,1,s0>" 3 27 ∷
    "a fifth assignment to a store is 3 at it" shown_by refused "pool(1,task(2,1,a,true,{d0:=1,d1:=1,d2:=1,d3:=1,s16" 3 48 ∷
    "a fifth assignment is 3 at its field" shown_by refused "pool(1,task(2,1,a,true,{d0:=1,d1:=1,d2:=1,d3:=1,d4" 3 48 ∷
    "where it starts with a number, 2" shown_by refused "pool(1,task(2,1,a,true,{d0:=1,d1:=1,d2:=1,d3:=1,4" 2 48 ∷
    "an empty pool is 2 at its closing sign" shown_by refused "pool(1,)" 2 7 ∷
    "`pool` has no n: 2 at the comma" shown_by refused "pool(1,start(1,2)|end(2),3)" 2 24 ∷
    "`miPool` without n is 2 at its closing sign" shown_by refused "miPool(1,startRcv(3:<>,1)|end(1))" 2 32 ∷
    "`default` is no guard: 2" shown_by refused "pool(1,task(2,1,a,default" 2 18 ∷
    "operands of a condition are no expressions: 2 at the `+`" shown_by refused "pool(1,task(2,1,a,1+1=2" 2 19 ∷
    "an expression joins two: 2 at the second `+`" shown_by refused "pool(1,endSnd(2,3:<1+2+3" 2 22 ∷
    "the 33rd element is 3 at its keyword" shown_by ((bytes "pool(1," ++ repeated "end(1)|" elements ++ bytes "end(1)") gives 3 beside 231) ∷
    "where no keyword stands, 2" shown_by ((bytes "pool(1," ++ repeated "end(1)|" elements ++ bytes "ends(1)") gives 2 beside 231) ∷
    "the fifth pool is 3 at its keyword" shown_by ((repeated "pool(1,end(1))|" pools ++ bytes "miPool") gives 3 beside 60) ∷
    "the text ends there: 2 at its length" shown_by ((repeated "pool(1,end(1))|" pools) gives 2 beside 60) ∷
    "a text above 65,536 bytes is 1" shown_by ((replicate (text_most + 1) 32) gives 1 beside 0) ∷
    "the lowest check broken is over the whole model: 2 of the second pool before 5 of the first" shown_by refused "pool(1,start(1,2)|task(2,1,a,true,{},3)|task(3,1,a,true,{},4)|end(4))|pool(2,end(1))" 4 2 ∷
    "equal messages appear once, at the oldest" shown_by listed_as (listed (pool 1 0 1 (words "interRcv(1,0:<?d0>,2)")) (made 1 (tokens 1 1)) (queue (one 7 ∷ one 7 ∷ one 8 ∷ []))) (step 0 0 0 0 (one 7) ∷ step 0 0 0 0 (one 8) ∷ []) ∷
    "a startRcv step stands under its unmade instance, behind those of the made ones" shown_by listed_as (listed (pool 1 2 2 (words "startRcv(0:<>,1)" ++ words "end(1)")) (made 1 (tokens 1 1)) (queue (empty ∷ []))) (step 0 1 0 0 empty ∷ step 1 0 0 0 empty ∷ []) ∷
    "16 leaves a step out" shown_by listed_as (listed (pool 1 2 2 (words "startRcv(0:<>,1)" ++ words "end(1)")) (made 2 (tokens 1 1)) (queue (empty ∷ []))) (step 0 1 0 0 empty ∷ []) ∷
    "by branch" shown_by listed_as (listed (pool 1 0 1 (words "xorJoin({1,2},3)")) (made 1 (with_tokens (tokens 1 1) 2 1)) (queue [])) (step 0 0 0 0 empty ∷ step 0 0 0 1 empty ∷ []) ∷
    "by phase" shown_by listed_as (listed (pool 1 0 1 (words "task(1,1,na_c,true,{},2)")) (made 1 (with_active (tokens 1 1) 1 1)) (queue [])) (step 0 0 1 0 empty ∷ step 0 0 3 0 empty ∷ []) ∷
    "6: no accepted step with that ordinal" shown_by eqb (chosen (listed (pool 1 0 1 (words "xorJoin({1,2},3)")) (made 1 (with_tokens (tokens 1 1) 2 1)) (queue [])) 2).number 6 ∷
    "a limit of 0 takes none, and one is still accepted" shown_by ran_to (ran (pool 1 0 1 (words "end(1)")) 0 (made 1 (tokens 1 1)) (queue [])) 0 1 ∷
    "the limit used up by the last step: none is still accepted" shown_by ran_to (ran (pool 1 0 1 (words "end(1)")) 1 (made 1 (tokens 1 1)) (queue [])) 1 0 ∷
    "used up before: one is" shown_by ran_to (ran (pool 1 0 1 (words "end(1)")) 1 (made 1 (tokens 1 2)) (queue [])) 1 1 ∷
    "until none is accepted" shown_by ran_to (ran (pool 1 0 1 (words "end(1)")) 100 (made 1 (tokens 1 2)) (queue [])) 2 0 ∷
    "the writer writes no blanks and ends with one newline" shown_by writes " pool ( 1 , start ( 1 , 2 ) | end ( 2 ) ) " "pool(1,start(1,2)|end(2))\n" ∷
    "keeps the order of the table" shown_by writes "pool(2,end(2)|start(1,2))|miPool(1,startRcv(3:<?d0,1+d0>,1)|end(1),2)" "pool(2,end(2)|start(1,2))|miPool(1,startRcv(3:<?d0,1+d0>,1)|end(1),2)\n" ∷
    "and stores as they were read" shown_by writes "pool(1,startRcv(3:<?s0,d15+s15>,1)|end(1))" "pool(1,startRcv(3:<?s0,d15+s15>,1)|end(1))\n" ∷
    "an endSnd is written as a send to the lowest unused edge and an end for it" shown_by writes "pool(1,start(1,2)|endSnd(2,3:<>))" "pool(1,start(1,2)|interSnd(2,3:<>,3)|end(3))\n" ∷
    "edge 1 where it is unused" shown_by writes "pool(1,start(2,3)|endSnd(3,3:<1>))" "pool(1,start(2,3)|interSnd(3,3:<1>,1)|end(1))\n" ∷
    "several in text order" shown_by writes "pool(1,endSnd(5,3:<>)|startRcv(4:<>,1)|andSplit(1,{5,6})|endSnd(6,3:<d0>))" "pool(1,interSnd(5,3:<>,2)|startRcv(4:<>,1)|andSplit(1,{5,6})|interSnd(6,3:<d0>,3)|end(2)|end(3))\n" ∷
    "a broken check goes before 28: 32 elements, all of them endSnds" shown_by ((bytes "pool(1," ++ repeated "endSnd(1,3:<>)|" 31 ++ bytes "endSnd(1,3:<>))") gives 4 beside 2) ∷ []
