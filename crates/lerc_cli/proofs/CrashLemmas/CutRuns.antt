-- Runs that kills and crashes cut off hand on what stands for the tiles after some updates of each.
use Rattle.std.proofs.Common.{◌≡◌, ℕ, List, [], ◌∷◌, take, refl, sym, ap, subst, ◌∙◌, arith}
use Rattle.std.proofs.lemmas.List.{take_all}
use Rattle.outside_io.specs.declared.volume.VolFile.TheVariants.{Bundle, Journal}
use Rattle.outside_io.specs.volume.Disk.{Disk}
use Rattle.outside_io.specs.volume.History.{History, contents, current}
use Rattle.outside_io.proofs.VolumeLemmas.Images.{present_of}
use Rattle.outside_io.proofs.VolumeLemmas.Moments.{during_map_at}
use Rattle.bundle_store.specs.declared.tile_rec.TileRec.{TileRec}
use Rattle.bundle_store.specs.Build.{map_after}
use Rattle.bundle_store.specs.Starts.{CouldBe, EachIsSound, KeepsStart}
use Rattle.bundle_store.specs.Tiles.{TileMap}
use Rattle.bundle_store.proofs.Standing.{weaker}
use Rattle.bundle_lines.specs.Chains.{CutRun as BundleRun, IsAfterFirst, IsCutRun as IsBundleRun, KeepsFirst}
use Rattle.bundle_lines.specs.Puts.{marked}
use Rattle.bundle_lines.proofs.Chains.{next_map, next_sound}
use Rattle.bundle_lines.proofs.Kept.{build_first, puts_first}
use Rattle.lerc_cli.specs.declared.words.Command.{Command}
use Rattle.lerc_cli.specs.declared.words.Command.TheVariants.{Encode, Decode, Info, Build, Put, Get, GetRaw, List as ListAll, Check, Recover, Sample}
use Rattle.lerc_cli.specs.inputs.Given.{Given}
use Rattle.lerc_cli.specs.answers.Names.{End}
use Rattle.lerc_cli.specs.answers.Table.{UpdatesOf}
use Rattle.opened_bundle.specs.Left.{IsReady}
use Rattle.lerc_cli.specs.crashes.CutRuns.{CutRun, IsAfterRuns, IsCutRun, SurvivesCuts}
use Rattle.lerc_cli.specs.crashes.Kept.{KeepsTiles}
use Rattle.lerc_cli.specs.crashes.Phase.{Phase, NotCalled, Recovered, Updated, UpdatesAt, UpdatesIn}

-- a command that makes no updates has none in any phase
none_in : (c : Command) (g : Given) (us : List TileRec) (phase : Phase) → (UpdatesOf c g us → us ≡ []) → UpdatesIn phase c g us → us ≡ []
none_in c g us NotCalled none is = is
none_in c g us Recovered none is = is
none_in c g us Updated none is = none is

-- of no updates any number is done, of any map
all_of_none : (first : Disk) (us : List TileRec) (least : ℕ) (map : TileMap) → us ≡ [] → CouldBe first map → IsAfterFirst first us least map
all_of_none first us least map is could =
    let none : take least us ≡ [] = ap (take least) is ∙ take_all least [] (omega arith) in
    record { start = map; could = could; count = least; enough = omega arith; map_is = ap (map_after map) (sym none) }

-- what a run keeps, in the words of the law on runs of any programs
module _ (g : Given) (end : End) (us : List TileRec) (marks : List ℕ) (start : TileMap) (old new : History) (could : CouldBe (current old) start) where
  -- a command that makes no updates
  first_same : (c : Command) → (UpdatesOf c g us → us ≡ []) → UpdatesAt c g end us → KeepsStart old new → KeepsFirst us marks old new
  first_same c none at kept =
      let is : us ≡ [] = none_in c g us at.0 none at.1.1 in
      during_map_at _ _ old new (λ t d ge le each. weaker (CouldBe (current old)) (IsAfterFirst (current old) us (marked marks t)) d (λ map could. all_of_none (current old) us (marked marks t) map is could) each) kept

  first_done : (c : Command) → UpdatesAt c g end us → KeepsTiles c us marks start old new → KeepsFirst us marks old new
  first_done (Encode version error) at kept = first_same (Encode version error) (λ is. is) at kept
  first_done Decode at kept = first_same Decode (λ is. is) at kept
  first_done Info at kept = first_same Info (λ is. is) at kept
  first_done (Build version error workers) at kept = build_first start us marks old new could kept
  first_done (Put version error workers) at kept = puts_first start us marks old new could kept.0 kept.1.2
  first_done (Get slot) at kept = first_same (Get slot) (λ is. is) at kept
  first_done (GetRaw slot) at kept = first_same (GetRaw slot) (λ is. is) at kept
  first_done ListAll at kept = first_same ListAll (λ is. is) at kept
  first_done Check at kept = first_same Check (λ is. is) at kept
  first_done Recover at kept = first_same Recover (λ is. is) at kept
  first_done (Sample first count) at kept = first_same (Sample first count) (λ is. is) at kept

-- one run
module _ (first : Disk) (r : CutRun) (sound : EachIsSound first) (is : IsCutRun first r) where
  ready : (start : TileMap) × (IsReady r.told r.old start × CouldBe (current r.old) start)
  ready =
      let here : EachIsSound (current r.old) = subst EachIsSound (sym is.begins) sound in
      let bundle = present_of Bundle r.old is.present in
      let journal = present_of Journal r.old is.present in
      let s = here (contents Bundle r.old) (contents Journal r.old) bundle journal in (
        s.map,
        (
          record { tells = is.tells; sound = here; stands = s.stands },
          record { bundle = contents Bundle r.old; journal = contents Journal r.old; image = record { bundle = bundle; journal = journal }; stands = s.stands },
        ),
      )

  updates : (us : List TileRec) × (UpdatesAt r.command r.given r.end us × KeepsTiles r.command us r.marks ready.0 r.old r.new)
  updates = is.kept ready.0 ready.1.0

  abbrev bundle_run : BundleRun
  bundle_run = record { updates = updates.0; marks = r.marks; old = r.old; new = r.new; moment = r.moment; cut = r.cut; left = r.left }

  is_run : IsBundleRun first bundle_run
  is_run = record {
    begins = is.begins;
    kept = λ _. first_done r.given r.end updates.0 r.marks ready.0 r.old r.new ready.1.1 r.command updates.1.0 updates.1.1;
    from = is.from;
    to = is.to;
    left = is.left;
  }

  left_sound : EachIsSound r.left
  left_sound = next_sound first bundle_run sound is_run

  left_map : (map : TileMap) → CouldBe r.left map → IsAfterFirst first updates.0 (marked r.marks r.moment) map
  left_map map could = next_map first bundle_run sound is_run map could

pub survives : SurvivesCuts
survives first [] sound are = λ b j ib ij.
    let s = sound b j ib ij in
    record { map = s.map; stands = s.stands; passes = (s.map, (record { bundle = b; journal = j; image = record { bundle = ib; journal = ij }; stands = s.stands }, refl)) }
survives first (r ∷ rs) sound (is, others) = λ b j ib ij.
    let made = updates first r sound is in
    let rest = survives r.left rs (left_sound first r sound is) others b j ib ij in
    let from = left_map first r sound is rest.passes.0 rest.passes.1.0 in
    let done : IsAfterRuns (map_after from.start (take from.count made.0)) rs rest.map = subst (λ (m : TileMap). IsAfterRuns m rs rest.map) from.map_is rest.passes.1.1 in
    record {
      map = rest.map;
      stands = rest.stands;
      passes = (from.start, (from.could, (made.0, (made.1.0, (from.count, (from.enough, done))))));
    }
