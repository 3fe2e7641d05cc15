-- What R17 says of references, tried at the boundary of each sentence: one table. A row says what is tried, and names a text, the things drawn, one of them, its attribute, and the thing that this names. (RULES: drawn)
use Rattle.std.specs.Prelude.{ℕ, List, [], ◌∷◌, ◌++◌, length}
use Prim.Native.String.{String}
use Rattle.base_words.specs.Text.{bytes}
use Rattle.draw_things.specs.Things.{definitions, participant, message_flow, process, sequence_flow, task, exclusive_gateway}

pub record Point : Type 0 where
  pub says : String
  pub text : List ℕ
  pub things : List ℕ
  pub count : ℕ
  pub attribute : List ℕ
  pub names : ℕ

-- a thing of a sort at a place, within another, from a source
abbrev thing : ℕ → ℕ → ℕ → ℕ → List ℕ
thing s p i from = s ∷ p ∷ i ∷ from ∷ 0 ∷ []

-- thing 1 has the tag a, of a sort, within thing 0; thing 2 has the tag b, of a sort, within a thing, from a source; what the attribute of thing 1 names
abbrev told : String → String → ℕ → String → ℕ → ℕ → ℕ → String → ℕ → Point
told says a s b s' i from name k =
    record {
      says = says;
      text = bytes a ++ bytes b;
      things = thing definitions 0 0 0 ++ (thing s 0 0 0 ++ thing s' (length (bytes a)) i from);
      count = 3;
      attribute = bytes name;
      names = k;
    }

abbrev flow : String → String → String → ℕ → ℕ → ℕ → Point
flow says a b s i k = told says a sequence_flow b s i 0 "sourceRef" k

abbrev pub points : List Point
points =
    flow "a node of the same process" "<a sourceRef='x'>" "<b id='x'>" task 0 2
    ∷ flow "of another process" "<a sourceRef='x'>" "<b id='x'>" task 2 0
    ∷ flow "no node" "<a sourceRef='x'>" "<b id='x'>" process 0 0
    ∷ flow "another id" "<a sourceRef='x'>" "<b id='xx'>" task 0 0
    ∷ flow "no id" "<a sourceRef='x'>" "<b name='x'>" task 0 0
    ∷ flow "an attribute that is an id by its prefix only" "<a sourceRef='x'>" "<b y:id='x'>" task 0 0
    ∷ flow "no reference" "<a targetRef='x'>" "<b id='x'>" task 0 0
    ∷ flow "a reference with a prefix" "<a sourceRef='y:x'>" "<b id='x'>" task 0 2
    ∷ flow "up to its last colon" "<a sourceRef='z:y:x'>" "<b id='x'>" task 0 2
    ∷ flow "the id is compared whole" "<a sourceRef='y:x'>" "<b id='y:x'>" task 0 0
    ∷ flow "the bytes as they stand" "<a sourceRef='&#38;'>" "<b id='&#38;'>" task 0 2
    ∷ flow "no entity resolved" "<a sourceRef='&amp;'>" "<b id='&#38;'>" task 0 0
    ∷ told "a message flow names a node of any process" "<a targetRef='x'>" message_flow "<b id='x'>" task 2 0 "targetRef" 2
    ∷ told "or a participant" "<a targetRef='x'>" message_flow "<b id='x'>" participant 0 0 "targetRef" 2
    ∷ told "no process" "<a targetRef='x'>" message_flow "<b id='x'>" process 0 0 "targetRef" 0
    ∷ told "a participant names a process" "<a processRef='x'>" participant "<b id='x'>" process 0 0 "processRef" 2
    ∷ told "no node" "<a processRef='x'>" participant "<b id='x'>" task 0 0 "processRef" 0
    ∷ told "a gateway names a flow that leaves it" "<a default='x'>" exclusive_gateway "<b id='x'>" sequence_flow 0 1 "default" 2
    ∷ told "no flow of another" "<a default='x'>" exclusive_gateway "<b id='x'>" sequence_flow 0 3 "default" 0
    ∷ told "no node" "<a default='x'>" exclusive_gateway "<b id='x'>" task 0 1 "default" 0
    ∷ []

-- THE ENDS, STORED: a flow from thing 3 to thing 2, a message flow from nothing to thing 2, and a participant of process 1
abbrev pub text : List ℕ
text = bytes "<a><b id='p'><c id='x'><d id='y'><e sourceRef='y' targetRef='x'><f targetRef='x'><g processRef='p'>"

abbrev drawn : ℕ → ℕ → ℕ → ℕ → ℕ → List ℕ
drawn s p i from to = s ∷ p ∷ i ∷ from ∷ to ∷ []

abbrev nodes : List ℕ
nodes = drawn definitions 0 0 0 0 ++ (drawn process 3 0 0 0 ++ (drawn task 13 1 0 0 ++ drawn task 23 1 0 0))

abbrev pub unlinked : List ℕ
unlinked = nodes ++ (drawn sequence_flow 33 1 0 0 ++ (drawn message_flow 64 0 0 0 ++ drawn participant 81 0 0 0))

abbrev pub linked_up : List ℕ
linked_up = nodes ++ (drawn sequence_flow 33 1 3 2 ++ (drawn message_flow 64 0 0 2 ++ drawn participant 81 0 1 0))
