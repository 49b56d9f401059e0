-- What a volume in memory stands for, by its fields.
use Rattle.std.specs.Prelude.{◌≡◌, ◌≤◌, min, List, length, vec_capacity}
use Rattle.outside_io.specs.declared.volume.mem_volume.MemVolume.TheInside.{Inside}
use Rattle.outside_io.specs.volume.Disk.{AreBytes, Disk}
use Rattle.outside_io.specs.volume.Recorded.{Effect, Recorded, first_of, replay, sum_written}
use Rattle.outside_io.specs.inside.Effects.{AllEndWithin, AllInPool, effects, AllFit}

abbrev pub first : Inside → Disk
first a = first_of a.bundle a.journal

abbrev pub effects_of : Inside → List Effect
effects_of a = effects a.written.items a.log.items

abbrev pub recorded : Inside → Recorded
recorded a = record {
  bundle = a.bundle;
  journal = a.journal;
  effects = effects_of a;
  clock = a.clock;
  faults = a.faults;
  failing = a.failing.items;
  stop = a.stop;
  calls = a.calls;
  room = a.room;
}

pub record IsKept (a : Inside) : Type 0 where
  pub pool : AllInPool (length a.written.items) a.log.items
  pub ends : AllEndWithin a.log.items
  pub fit : AllFit (effects_of a) (first a)
  pub octets : AreBytes a.written.items
  pub bundle_len : a.bundle_len ≡ length (replay (effects_of a) (first a)).bundle.now
  pub journal_len : a.journal_len ≡ length (replay (effects_of a) (first a)).journal.now
  pub counted : length a.log.items ≡ min a.clock a.calls
  pub log_room : a.calls ≤ vec_capacity a.log
  pub written_room : a.room ≤ vec_capacity a.written
  pub used : length a.written.items ≤ a.room
  pub all_used : sum_written (effects_of a) ≡ length a.written.items
