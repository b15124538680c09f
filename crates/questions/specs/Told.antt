-- What the answers say in document 01's terms: "a refusal carries its number and a place".
use Rattle.std.proofs.Math.Option.{Option, none, some}
use Rattle.std.specs.Prelude.{ℕ, min}
use Rattle.multipartition.specs.Answers.{Answer, answered, refused}
use Rattle.questions.specs.declared.Neighbour.{Neighbour}
use Rattle.questions.specs.declared.Neighbour.TheVariants as neighbour

-- "answered by a processor, by none, or by a refusal"
abbrev pub told_neighbour : Neighbour → Answer (Option ℕ)
told_neighbour (neighbour.Processor q) = answered (some q)
told_neighbour neighbour.Nobody = answered none
told_neighbour (neighbour.Refused number place) = refused number place

-- an answer whose place has 32 bits: a larger one is given as 4,294,967,295
abbrev pub in_32_bits : {A : Type 0} → Answer A → Answer A
in_32_bits (answered a) = answered a
in_32_bits (refused number place) = refused number (min place 4294967295)
