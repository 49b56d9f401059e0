use Rattle.delta_mode.proofs.giving.next_deltas.Goals as goal

pub next_full-requires-clause-before : goal.next_full-requires-clause-before
next_full-requires-clause-before g c = record { byte = c.requires.kind; state = c.requires.state; more = c.requires.more }

pub next_marked-requires-clause-before : goal.next_marked-requires-clause-before
next_marked-requires-clause-before g c = record { byte = c.requires.kind; state = c.requires.state; more = c.requires.more }
