-- Drawings and the texts that they are spelled as, computed.
use Prim.Native.String.{String}
use Rattle.std.specs.Prelude.{List, [], ◌∷◌, ◌++◌}
use Rattle.base_words.specs.Blocks.{Bytes}
use Rattle.base_words.specs.Text.{bytes}

pub record Point : Type 0 where
  pub text : Bytes
  pub says : Bytes

-- a process with these nodes and flows
abbrev drawing : String → Bytes
drawing s = bytes "<definitions><process>" ++ (bytes s ++ bytes "</process></definitions>")

-- a collaboration and a process
abbrev collaboration : String → String → Bytes
collaboration c s = bytes "<definitions><collaboration>" ++ (bytes c ++ (bytes "</collaboration><process id='p'>" ++ (bytes s ++ bytes "</process></definitions>")))

-- a task between a start and an end
abbrev pub line : Bytes
line = drawing "<startEvent id='s'/><task id='t'/><endEvent id='e'/><sequenceFlow id='f' sourceRef='s' targetRef='t'/><sequenceFlow id='g' sourceRef='t' targetRef='e'/>"

-- the same with the flows the other way round: other edges
abbrev pub turned : Bytes
turned = drawing "<startEvent id='s'/><task id='t'/><endEvent id='e'/><sequenceFlow id='g' sourceRef='t' targetRef='e'/><sequenceFlow id='f' sourceRef='s' targetRef='t'/>"

-- an event gateway with two catch events, its flows and the message flows in another order than they
abbrev pub waiting : Bytes
waiting =
    collaboration "<participant id='a' processRef='p'/><participant id='o'/><messageFlow sourceRef='o' targetRef='c'/><messageFlow sourceRef='o' targetRef='b'/>"
    "<startEvent id='s'/><eventBasedGateway id='g'/><intermediateCatchEvent id='b'><messageEventDefinition/></intermediateCatchEvent><intermediateCatchEvent id='c'><messageEventDefinition/></intermediateCatchEvent><endEvent id='e'/><endEvent id='f'/><sequenceFlow sourceRef='s' targetRef='g'/><sequenceFlow sourceRef='g' targetRef='c'/><sequenceFlow sourceRef='g' targetRef='b'/><sequenceFlow sourceRef='b' targetRef='e'/><sequenceFlow sourceRef='c' targetRef='f'/>"

-- many instances, started by a message; a split with a condition and a default
abbrev pub choosing : Bytes
choosing =
    collaboration "<participant id='a' processRef='p'><participantMultiplicity maximum='3'/></participant><participant id='o'/><messageFlow sourceRef='o' targetRef='s'/>"
    "<startEvent id='s'><messageEventDefinition/></startEvent><exclusiveGateway id='x' default='h'/><endEvent id='e'/><endEvent id='z'><terminateEventDefinition/></endEvent><sequenceFlow id='f' sourceRef='s' targetRef='x'/><sequenceFlow id='g' sourceRef='x' targetRef='e'><conditionExpression>d0 &lt; 7</conditionExpression></sequenceFlow><sequenceFlow id='h' sourceRef='x' targetRef='z'/>"

abbrev pub points : List Point
points =
    record { text = line; says = bytes "pool(1,start(3,1)|task(1,1,a,true,{},2)|end(2))\n" }
    ∷ record { text = turned; says = bytes "pool(1,start(3,2)|task(2,1,a,true,{},1)|end(1))\n" }
    ∷ record { text = waiting; says = bytes "pool(1,start(4,1)|eventBased(1,(0:<>,3),(1:<>,2))|end(2)|end(3))\n" }
    ∷ record { text = choosing; says = bytes "miPool(1,startRcv(0:<>,1)|xorSplit(1,{(2,d0<7),(3,default)})|end(2)|terminate(3),3)\n" }
    ∷ []
