use Rattle.outside_io.specs.declared.volume.VolFile.TheVariants.{Bundle}
use Rattle.outside_io.specs.volume.History.{contents}
use Rattle.outside_io.specs.volume.Recorded.{history_of}
use Rattle.bundle_store.specs.Session.{Serves}
use Rattle.killed_tests.proofs.works.letters_of.Given as goal

abbrev pub invariant-loop-number : goal.invariant-loop-number
invariant-loop-number g l = Serves l.session (contents Bundle (history_of l.vol))
