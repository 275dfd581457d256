-- Reports and notes, as 02 has them: who has how many entries, in which term. Assumes nothing.
use Rattle.std.specs.Prelude.{Bool, ◌&&◌, ◌||◌, eqb, ltb}
use Rattle.mail.specs.declared.Report.{Report}
use Rattle.mail.specs.declared.Note.{Note}

abbrev pub zero_report : Report
zero_report = record { who = 0; term = 0; last = 0; len = 0 }

-- an unused note is zero
abbrev pub zero_note : Note
zero_note = record { term = 0; last = 0; len = 0 }

-- what a report says, as a note of the server that it is about
abbrev pub note_of : Report → Note
note_of r = record { term = r.term; last = r.last; len = r.len }

-- a note d gives way to a note e that is greater by term, then last term, then length
unfoldable pub gives_way : Note → Note → Bool
gives_way d e =
    ltb d.term e.term
    || (eqb d.term e.term && (ltb d.last e.last || (eqb d.last e.last && ltb d.len e.len)))
