-- The lists of the link for a solver in C (document 01, "Tiles, slabs, chains"): plans and answers as lists of 32-bit numbers.
use Rattle.std.specs.Prelude.{not, List, [], ◌∷◌, ◌++◌, ◌≡◌, ℕ, ◌+◌, ◌*◌, ◌/◌, ◌%◌, min, eqb, length, get_or, take, drop}
use Rattle.std.proofs.Math.Option.{none, some}
use Rattle.multipartition.specs.Answers.{Answer, answered, refused, Check, checked, held_by}
use Rattle.multipartition.specs.Questions.{length_check}
use Rattle.layout.specs.declared.Plan.{Plan}
use Rattle.timetable.specs.Timetable.{Message, Visit}

-- ---- plans

-- the places of a plan list: 0 d, 1 p, 2 to 6 extents, 7 to 11 weights, 12 to 16 cuts, 17 and 18 cost (the lower 32 bits first), 19 to 23 moduli,
-- 24 to 48 matrix, row after row of five places, 49 kind (document 02, request c), 50 to 54 least thicknesses (document 02, request g)
unfoldable pub plan_in : List ℕ → Plan
plan_in list = record {
  d = get_or list 0 0;
  p = get_or list 1 0;
  extents = take 5 (drop 2 list);
  weights = take 5 (drop 7 list);
  cuts = take 5 (drop 12 list);
  cost = get_or list 17 0 + 4294967296 * get_or list 18 0;
  moduli = take 5 (drop 19 list);
  matrix = take 25 (drop 24 list);
  kind = get_or list 49 0;
  least = take 5 (drop 50 list);
}

-- the list of a plan
unfoldable pub list_of_plan : Plan → List ℕ
list_of_plan plan =
    plan.d
    ∷ plan.p
    ∷ plan.extents
    ++ (plan.weights ++ (plan.cuts ++ (plan.cost % 4294967296 ∷ plan.cost / 4294967296 ∷ plan.moduli ++ (plan.matrix ++ (plan.kind ∷ plan.least)))))

-- how many places a plan list has
abbrev pub plan_places : ℕ
plan_places = 55

-- "Over that link a plan list of a wrong length is a 6"
abbrev pub plan_list_check : List ℕ → Check
plan_list_check list = record { fails = not (eqb (length list) plan_places); number = 6; place = 0 }

-- the numbers of a plan list, if it has its length
abbrev pub plan_list_answer : List ℕ → Answer (List ℕ)
plan_list_answer list = checked (plan_list_check list ∷ []) (answered list)

-- ---- answers

-- "an answer list of a wrong length is a 9": the numbers into a lent list of so many places
abbrev pub into : ℕ → List ℕ → Answer (List ℕ)
into places numbers = checked (length_check (eqb places (length numbers)) ∷ []) (answered numbers)

-- what a call returns: 0, or the refusal's number with its place in the upper 32 bits
abbrev pub code_of : {A : Type 0} → Answer A → ℕ
code_of (answered a) = 0
code_of (refused number place) = number + 4294967296 * place

-- a place in 32 bits: a larger one is given as 4,294,967,295
abbrev pub place_in32 : {A : Type 0} → Answer A → Answer A
place_in32 (answered a) = answered a
place_in32 (refused number place) = refused number (min place 4294967295)

-- a call that answers so: what it returns, and what the lent answer lists hold afterwards
pub record Linked {A : Type 0} (answer : Answer A) (lent : A) (code : ℕ) (after : A) : Type 0 where
  pub returned : code ≡ code_of answer
  pub held : after ≡ held_by answer lent

-- 1, the processor and the length of a message, or three zeros for "no processor, length 0"
abbrev pub message_numbers : Message → List ℕ
message_numbers none = 0 ∷ 0 ∷ 0 ∷ []
message_numbers (some (processor, length)) = 1 ∷ processor ∷ length ∷ []

-- a visit: the slab, how many tiles, what is sent afterwards, what is expected beforehand
abbrev pub visit_numbers : Visit → List ℕ
visit_numbers visit = visit.slab ∷ visit.tiles ∷ message_numbers visit.sends ++ message_numbers visit.expects
