-- What the answers say in document 02's terms: a message or none, and a visit. A refusal's number and place are those of refusals/specs/Told.
use Rattle.std.specs.Prelude.{Option, None, Some}
use Rattle.std.proofs.Math.Option.{none, some}
use Rattle.timetable.specs.Timetable as timetable
use Rattle.timetable.specs.declared.Message.{Message}
use Rattle.timetable.specs.declared.Visit.{Visit}

-- none is "no processor, length 0"
abbrev pub told_message : Option Message → timetable.Message
told_message (Some message) = some (message.processor, message.length)
told_message None = none

abbrev pub told_visit : Visit → timetable.Visit
told_visit visit = record {
  slab = visit.slab;
  tiles = visit.tiles;
  sends = told_message visit.sends;
  expects = told_message visit.expects;
}
