-- An output before and after bytes that a method puts into it.
use Rattle.std.specs.Prelude.{◌≡◌, List, ℕ}
use Rattle.std.specs.Borrow.{MutBor}
use Rattle.numerals.specs.Output.{Written}
use Rattle.numerals.specs.declared.Output.{Output}

-- it keeps the list, and the bytes are written from its place on
pub record Puts (before : Output) (bytes : List ℕ) (after : Output) : Type 0 where
  pub same : after.list.ghost_name ≡ before.list.ghost_name
  pub written : Written before.list.now before.at bytes after.list.now after.at

-- an output that starts at the front of a list
pub record Starts (list : MutBor (List ℕ)) (out : Output) : Type 0 where
  pub same : out.list.ghost_name ≡ list.ghost_name
  pub contents : out.list.now ≡ list.now
  pub front : out.at ≡ 0
