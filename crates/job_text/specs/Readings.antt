-- The states of the reader as its code holds them.
use Rattle.std.specs.Prelude.{Option, Some, None}
use Rattle.job_text.specs.Machine.{State, between, inside, finished, astray}
use Rattle.job_text.specs.declared.Reading.{Reading}
use Rattle.job_text.specs.declared.Reading.TheVariants.{Between, Inside, Finished}

abbrev pub state_of : Reading → State
state_of (Between unfinished) = between unfinished.numbers.items
state_of (Inside unfinished v) = inside unfinished.numbers.items v
state_of (Finished numbers) = finished numbers.items

-- where no readable line begins so, there is no reading
abbrev pub state_or_astray : Option Reading → State
state_or_astray None = astray
state_or_astray (Some reading) = state_of reading
