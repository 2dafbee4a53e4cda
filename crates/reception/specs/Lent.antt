-- What a record that is only read holds (document 01, "The reception record"). Assumes nothing.
use Rattle.reception.specs.declared.record.Record.{Record}
use Rattle.reception.specs.Sendings.{Held, held_in}
use Rattle.reception.specs.Hearing.{Kept, kept_in}

-- its head and its three lists
abbrev pub kept : Record → Kept
kept r = kept_in r.head r.marks.now r.elapsed.now r.sizes.now

-- what they hold, place by place
abbrev pub held : Record → Held
held r = held_in r.head r.marks.now r.elapsed.now r.sizes.now
