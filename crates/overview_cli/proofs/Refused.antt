-- What a run that ends says of refusals, and what a refusal says of how it ends.
use Rattle.std.proofs.Common.{◌≡◌, ◌⊎◌, inl, inr, ℕ, List, length, Option, Some, Ok, Err, refl, sym, ap, subst, ◌∙◌, arith}
use Rattle.outside_io.specs.program.Line.{GivesLine}
use Rattle.bundle_store.specs.declared.tile_rec.TileRec.{TileRec}
use Rattle.opened_bundle.specs.Files.{Files}
use Rattle.opened_bundle.specs.declared.refusal.StoreRefusal.{StoreRefusal}
use Rattle.program_ends.specs.Moves.{SinkMove, VolumeMove}
use Rattle.program_ends.specs.declared.stop.Stop.{Stop}
use Rattle.program_ends.specs.declared.stop.Stop.TheVariants.{Usage, Source, Output, Volume, OutOfMemory, Refused}
use Rattle.overview_cli.specs.Names.{End, GivesLineOf, line_of, refusal_status, status_at}
use Rattle.overview_cli.specs.Putting.{IsToRefusal, PutsAnswer}
use Rattle.overview_cli.specs.Run.{Ends, OfCommand, Refuses, files_at}
use Rattle.overview_cli.specs.Taking.{IsFromRefusal, Taken, TakesOverview, UpdatesOf}
use Rattle.overview_cli.specs.declared.refusal.Refusal.{Refusal}
use Rattle.overview_cli.specs.declared.refusal.Refusal.TheVariants.{BadTile, Unlike, DepthNeedsV4, TileTooLarge, KeptTooMuch, Store}
use Rattle.overview_cli.specs.declared.words.Command.{Command}
use Rattle.overview_cli.proofs.OneEnd.{answer_refusal, list_or_refusal, one_from, one_list, put_or_refused, same_refusal, which}
use Rattle.overview_cli.proofs.Runs.{never_source, never_usage}

-- an end that is a refusal of putting is one of the second bundle
put_refusal : (c : Command) (from to : Option Files) (us : List TileRec) (n : ℕ) (r : Refusal) (output : List ℕ) → UpdatesOf c from us → PutsAnswer us to n (Err (Refused r)) output → Refuses c from to r
put_refusal c from to us n (Store why) output of answer = inr (us, (of, (why, (refl, answer_refusal us to n why output answer))))
put_refusal c from to us n (BadTile row col fault) output of answer = absurd answer
put_refusal c from to us n (Unlike row col) output of answer = absurd answer
put_refusal c from to us n (DepthNeedsV4 row col) output of answer = absurd answer
put_refusal c from to us n (TileTooLarge at len) output of answer = absurd answer
put_refusal c from to us n (KeptTooMuch at) output of answer = absurd answer

stop_of_end : (end : End) (stop : Stop Refusal) (r : Refusal) → end ≡ Err stop → end ≡ Err (Refused r) → stop ≡ Refused r
stop_of_end end stop r is so = let same : ◌≡◌ {A = End} (Err stop) (Err (Refused r)) = sym is ∙ so in cc

pub refuses : (c : Command) (end : End) (marks : List ℕ) (from to : VolumeMove) (out : SinkMove) (r : Refusal) → OfCommand c end marks from to out → end ≡ Err (Refused r) → Refuses c (files_at from) (files_at to) r
refuses c end marks from to out r did is = by did.taken did.takes did.ends
  where
    by : (taken : Taken) → TakesOverview c (files_at from) taken → Ends taken end marks to out → Refuses c (files_at from) (files_at to) r
    by (Ok updates) takes (puts, output) =
        put_refusal c (files_at from) (files_at to) updates.items (length marks) r output.gave.0 takes.0 (subst (λ (e : End). PutsAnswer updates.items (files_at to) (length marks) e output.gave.0) is output.gave.1.0)
    by (Err stop) takes (same, rest) = inl (subst (λ (s : Stop Refusal). TakesOverview c (files_at from) (Err s)) (stop_of_end end stop r same is) takes)

-- ---- statuses

-- an end that neither is well nor a failure of an object or of memory is a refusal
pub is_refused : (end : End) (n : ℕ) → n ≡ status_at end → (n ≡ 2) ⊎ (n ≡ 7) → (r : Refusal) × (end ≡ Err (Refused r))
is_refused (Ok x) n is which = absurd (zero is which)
  where
    zero : n ≡ 0 → (n ≡ 2) ⊎ (n ≡ 7) → ⊥
    zero is (inl two) = omega (arith, is, two)
    zero is (inr seven) = omega (arith, is, seven)
is_refused (Err (Refused r)) n is which = (r, refl)
is_refused (Err Usage) n is which = absurd (other is which)
  where
    other : n ≡ 1 → (n ≡ 2) ⊎ (n ≡ 7) → ⊥
    other is (inl two) = omega (arith, is, two)
    other is (inr seven) = omega (arith, is, seven)
is_refused (Err Source) n is which = absurd (other is which)
  where
    other : n ≡ 3 → (n ≡ 2) ⊎ (n ≡ 7) → ⊥
    other is (inl two) = omega (arith, is, two)
    other is (inr seven) = omega (arith, is, seven)
is_refused (Err Output) n is which = absurd (other is which)
  where
    other : n ≡ 4 → (n ≡ 2) ⊎ (n ≡ 7) → ⊥
    other is (inl two) = omega (arith, is, two)
    other is (inr seven) = omega (arith, is, seven)
is_refused (Err Volume) n is which = absurd (other is which)
  where
    other : n ≡ 5 → (n ≡ 2) ⊎ (n ≡ 7) → ⊥
    other is (inl two) = omega (arith, is, two)
    other is (inr seven) = omega (arith, is, seven)
is_refused (Err OutOfMemory) n is which = absurd (other is which)
  where
    other : n ≡ 6 → (n ≡ 2) ⊎ (n ≡ 7) → ⊥
    other is (inl two) = omega (arith, is, two)
    other is (inr seven) = omega (arith, is, seven)

-- the line of an end that is a refusal
pub said : (end : End) (err : SinkMove) (r : Refusal) → end ≡ Err (Refused r) → GivesLineOf end err → GivesLine err.held.old err.held.new err.faults.old err.faults.new (line_of (Refused r))
said end err r is line = let here : GivesLineOf (Err (Refused r)) err = subst (λ (e : End). GivesLineOf e err) is line in here

-- what a refusal's status tells
pub record Tells (c : Command) (n : ℕ) (from to : Option Files) (err : SinkMove) : Type 0 where
  pub refusal : Refusal
  pub status : n ≡ refusal_status refusal
  pub holds : Refuses c from to refusal
  pub line : GivesLine err.held.old err.held.new err.faults.old err.faults.new (line_of (Refused refusal))

pub tells : (c : Command) (end : End) (n : ℕ) (marks : List ℕ) (from to : VolumeMove) (out err : SinkMove) → n ≡ status_at end → GivesLineOf end err → OfCommand c end marks from to out → (n ≡ 2) ⊎ (n ≡ 7) → Tells c n (files_at from) (files_at to) err
tells c end n marks from to out err is line did which =
    let found = is_refused end n is which in
    record {
      refusal = found.0;
      status = is ∙ ap status_at found.1;
      holds = refuses c end marks from to out found.0 did found.1;
      line = said end err found.0 found.1 line;
    }

-- ---- a refusal of the first bundle

-- it is the end, and nothing else was touched
pub record Is (end : End) (r : Refusal) (to : VolumeMove) (out : SinkMove) : Type 0 where
  pub end_is : end ≡ Err (Refused r)
  pub output : out.same
  pub second : to.same

pub from_refused : (c : Command) (end : End) (marks : List ℕ) (from to : VolumeMove) (out : SinkMove) (f : Files) (r : Refusal) → files_at from ≡ Some f → OfCommand c end marks from to out
    → IsFromRefusal c (files_at from) (Refused r) → (end ≡ Err Volume → ⊥) → (end ≡ Err OutOfMemory → ⊥) → Is end r to out
from_refused c end marks from to out f r told did holds volume memory =
    by did.taken (subst (λ (o : Option Files). TakesOverview c o did.taken) told did.takes) did.ends
  where
    refusal : IsFromRefusal c (Some f) (Refused r)
    refusal = subst (λ (o : Option Files). IsFromRefusal c o (Refused r)) told holds

    by : (taken : Taken) → TakesOverview c (Some f) taken → Ends taken end marks to out → Is end r to out
    by (Ok updates) takes ends = absurd (list_or_refusal c f updates.items (Refused r) takes.0 refusal)
    by (Err Volume) takes (same, rest) = absurd (volume same)
    by (Err OutOfMemory) takes (same, rest) = absurd (memory same)
    by (Err (Refused s)) takes (same, (none, (left, kept))) =
        record { end_is = same ∙ ap (λ (x : Stop Refusal). Err x) (one_from c f (Refused s) (Refused r) takes refusal); output = kept; second = left }
    by (Err Usage) takes ends = absurd takes
    by (Err Source) takes ends = absurd takes
    by (Err Output) takes ends = absurd takes

-- ---- a refusal of the second

-- whichever object or memory may have failed
pub record NoFailure (end : End) : Type 0 where
  pub output : end ≡ Err Output → ⊥
  pub volume : end ≡ Err Volume → ⊥
  pub memory : end ≡ Err OutOfMemory → ⊥

answered : (us : List TileRec) (g : Files) (n : ℕ) (end : End) (output : List ℕ) (why : StoreRefusal) → NoFailure end → PutsAnswer us (Some g) n end output → IsToRefusal us (Some g) why → end ≡ Err (Refused (Store why))
answered us g n (Ok x) output why well answer holds = absurd (put_or_refused us g n why output answer (which us g why holds))
answered us g n (Err Output) output why well answer holds = absurd (well.output refl)
answered us g n (Err Volume) output why well answer holds = absurd (well.volume refl)
answered us g n (Err OutOfMemory) output why well answer holds = absurd (well.memory refl)
answered us g n (Err Usage) output why well answer holds = absurd answer
answered us g n (Err Source) output why well answer holds = absurd answer
answered us g n (Err (Refused (Store other))) output why well answer holds =
    ap (λ (x : StoreRefusal). Err (Refused (Store x))) (same_refusal us g other why (which us g other (answer_refusal us (Some g) n other output answer)) (which us g why holds))
answered us g n (Err (Refused (BadTile row col fault))) output why well answer holds = absurd answer
answered us g n (Err (Refused (Unlike row col))) output why well answer holds = absurd answer
answered us g n (Err (Refused (DepthNeedsV4 row col))) output why well answer holds = absurd answer
answered us g n (Err (Refused (TileTooLarge at len))) output why well answer holds = absurd answer
answered us g n (Err (Refused (KeptTooMuch at))) output why well answer holds = absurd answer

pub to_refused : (c : Command) (end : End) (marks : List ℕ) (from to : VolumeMove) (out : SinkMove) (f g : Files) (us : List TileRec) (why : StoreRefusal) → files_at from ≡ Some f → files_at to ≡ Some g
    → OfCommand c end marks from to out → UpdatesOf c (files_at from) us → IsToRefusal us (files_at to) why → NoFailure end → end ≡ Err (Refused (Store why))
to_refused c end marks from to out f g us why told told_to did of holds well =
    by did.taken (subst (λ (o : Option Files). TakesOverview c o did.taken) told did.takes) did.ends
  where
    updates_are : UpdatesOf c (Some f) us
    updates_are = subst (λ (o : Option Files). UpdatesOf c o us) told of

    by : (taken : Taken) → TakesOverview c (Some f) taken → Ends taken end marks to out → end ≡ Err (Refused (Store why))
    by (Ok updates) takes (puts, output) =
        let same : us ≡ updates.items = one_list c f us updates.items updates_are takes.0 in
        answered updates.items g (length marks) end output.gave.0 why well (subst (λ (o : Option Files). PutsAnswer updates.items o (length marks) end output.gave.0) told_to output.gave.1.0)
        (subst (λ (x : List TileRec). IsToRefusal x (Some g) why) same (subst (λ (o : Option Files). IsToRefusal us o why) told_to holds))
    by (Err Volume) takes (same, rest) = absurd (well.volume same)
    by (Err OutOfMemory) takes (same, rest) = absurd (well.memory same)
    by (Err (Refused s)) takes ends = absurd (list_or_refusal c f us (Refused s) updates_are takes)
    by (Err Usage) takes ends = absurd takes
    by (Err Source) takes ends = absurd takes
    by (Err Output) takes ends = absurd takes

-- ---- none

-- an end that is no failure and of which no refusal holds is well
pub granted : (c : Command) (end : End) (marks : List ℕ) (from to : VolumeMove) (out : SinkMove) → OfCommand c end marks from to out → ((r : Refusal) → Refuses c (files_at from) (files_at to) r → ⊥) → NoFailure end → end ≡ Ok tt
granted c end marks from to out did none well = by end refl
  where
    by : (e : End) → end ≡ e → end ≡ Ok tt
    by (Ok x) is = is
    by (Err Usage) is = absurd (never_usage c end marks from to out did is)
    by (Err Output) is = absurd (well.output is)
    by (Err Volume) is = absurd (well.volume is)
    by (Err OutOfMemory) is = absurd (well.memory is)
    by (Err (Refused r)) is = absurd (none r (refuses c end marks from to out r did is))
    by (Err Source) is = absurd (never_source c end marks from to out did is)
