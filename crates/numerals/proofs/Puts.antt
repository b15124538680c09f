-- Bytes put into an output: none, and one text after another.
use mathlib.Core.Path.{◌≡◌, refl, sym, ◌∙◌, subst}
use mathlib.Core.List.{List, [], ◌++◌}
use Prim.Native.Nat.{ℕ, ◌≤◌}
use lib.ListN.{length, take}
use Rattle.std.specs.Borrow.{MutBor}
use Rattle.numerals.specs.declared.Output.{Output}
use Rattle.numerals.specs.Output.{Written}
use Rattle.numerals.specs.Puts.{Puts, Starts}
use Rattle.numerals.proofs.Written.{written_nothing, written_both, written_as, written_front}

pub puts_nothing : (o : Output) → Puts o [] o
puts_nothing o = record { same = refl; written = written_nothing o.list.now o.at }

pub puts_as : {o q : Output} {a b : List ℕ} → a ≡ b → Puts o a q → Puts o b q
puts_as e p = record { same = p.same; written = written_as e p.written }

-- one text and another after it
pub puts_both : {o p q : Output} {a b : List ℕ} → Puts o a p → Puts p b q → Puts o (a ++ b) q
puts_both f g = record { same = g.same ∙ f.same; written = written_both f.written g.written }

-- from the front of a list on, which then holds what is made
pub written_from : {list : MutBor (List ℕ)} {o q : Output} {text made : List ℕ} → Starts list o → Puts o text q → made ≡ q.list.now
    → Written list.now 0 text made q.at
written_from {list} {o} {q} {text} {made} s p e =
    rw (sym s.contents, sym s.front, e) p.written

-- from the front of a list with room on, the text stands at its front
pub puts_front : {list : MutBor (List ℕ)} {o q : Output} {text : List ℕ} → Starts list o → Puts o text q → length text ≤ length list.now
    → take q.at q.list.now ≡ text
puts_front {list} {o} {q} {text} s p room =
    written_front (subst (λ (k : ℕ). Written o.list.now k text q.list.now q.at) s.front p.written) (rw s.contents room)
