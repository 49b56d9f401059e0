use Rattle.std.proofs.Common.{◌≤◌, Ok, Err, List, ℕ, length, subst, sym, arith}
use Rattle.std.specs.Prelude.{IfErr, Vec}
use Rattle.std.specs.declared.alloc.Global.{Global}
use Rattle.bundle_store.specs.Session.{SessionState}
use Rattle.bundle_pack.specs.Chosen.{chosen_bytes, most_bytes}
use Rattle.bundle_pack.specs.Files.{all_bundles, all_files}
use Rattle.bundle_pack.specs.Sources.{DeviceAt}
use Rattle.bundle_pack.specs.inside.Collecting.{AreServed, ReadFails}
use Rattle.bundle_pack.proofs.Reading.{served, still_shut}
use Rattle.bundle_pack.proofs.Steps.{all_moved, err_as, opening_fails, moved_told, opened_still, read_tiles}
use Rattle.bundle_pack.proofs.packing.read_sources.Goals as goal

pub returns-in-Err-clause-sources : goal.returns-in-Err-clause-sources
returns-in-Err-clause-sources g c =
    let vol = g.V.Volume in
    let fault = c.in-Err.fault in
    all_moved {X = Vec SessionState Global} vol.told vol.history vol.faults c.args.from.now c.open_sources.new.from (Err fault) _ (λ i is. err_as fault _ is) (λ i is. err_as fault _ is) c.in-Err.ensures.sources

pub returns-then-len-gt-MOST_BYTES-clause-sources : goal.returns-then-len-gt-MOST_BYTES-clause-sources
returns-then-len-gt-MOST_BYTES-clause-sources g c =
    let vol = g.V.Volume in
    all_moved {X = Vec SessionState Global} vol.told vol.history vol.faults c.args.from.now c.open_sources.new.from (Ok c.in-Ok.sessions) _ (λ i is. absurd cc) (λ i is. absurd cc) c.in-Ok.ensures.sources

pub returns-then-len-gt-MOST_BYTES-clause-says : goal.returns-then-len-gt-MOST_BYTES-clause-says
returns-then-len-gt-MOST_BYTES-clause-says g c = λ all.
    let vol = g.V.Volume in
    let from = c.open_sources.new.from in
    let bundles = all_bundles vol.history from in
    let told = moved_told vol.told vol.history vol.faults (λ i. DeviceAt {X = Vec SessionState Global} (Ok c.in-Ok.sessions) i) c.args.from.now from c.in-Ok.ensures.sources all in
    let all_served = subst (λ (ss : List SessionState). AreServed ss bundles) (sym c.as_slice.ensures.value) (served vol.told vol.history c.in-Ok.sessions.items from c.in-Ok.ensures.serving told) in
    (bundles, (c.in-Ok.ensures.says all, (c.bytes_of_chosen-len.ensures bundles all_served, c.if-len-gt-MOST_BYTES.true)))

pub returns-clause-sources : goal.returns-clause-sources
returns-clause-sources g c =
    let vol = g.V.Volume in
    opened_still {X = Vec SessionState Global} vol.told vol.history vol.faults c.args.from.now c.open_sources.new.from c.collect_tiles.new.from (Ok c.in-Ok.sessions) c.collect_tiles.result (λ i is. absurd cc) c.in-Ok.ensures.sources c.collect_tiles.ensures.still

pub returns-clause-says : goal.returns-clause-says
returns-clause-says g c = λ all.
    let vol = g.V.Volume in
    let from = c.open_sources.new.from in
    let bundles = all_bundles vol.history from in
    let told = moved_told vol.told vol.history vol.faults (λ i. DeviceAt {X = Vec SessionState Global} (Ok c.in-Ok.sessions) i) c.args.from.now from c.in-Ok.ensures.sources all in
    let all_served = subst (λ (ss : List SessionState). AreServed ss bundles) (sym c.as_slice.ensures.value) (served vol.told vol.history c.in-Ok.sessions.items from c.in-Ok.ensures.serving told) in
    let sum = c.bytes_of_chosen-len.ensures bundles all_served in
    let few : chosen_bytes bundles 16384 ≤ most_bytes = omega (arith, sum, c.if-len-gt-MOST_BYTES.false) in
    read_tiles (all_files vol.history c.args.from.now) bundles c.collect_tiles.result (record { opened = c.in-Ok.ensures.says all; few = few }) (c.collect_tiles.ensures.says told)

pub returns-in-Err-clause-answers : goal.returns-in-Err-clause-answers
returns-in-Err-clause-answers g c = opening_fails (length c.args.from.now) c.in-Err.fault c.in-Err.ensures.answers

pub returns-clause-answers : goal.returns-clause-answers
returns-clause-answers g c = subst (λ (n : ℕ). IfErr c.collect_tiles.result (λ f. ReadFails n f)) c.in-Ok.ensures.sources.many c.collect_tiles.ensures.answers

pub returns-in-Err-clause-shut : goal.returns-in-Err-clause-shut
returns-in-Err-clause-shut g c = c.in-Err.ensures.shut

pub returns-then-len-gt-MOST_BYTES-clause-shut : goal.returns-then-len-gt-MOST_BYTES-clause-shut
returns-then-len-gt-MOST_BYTES-clause-shut g c = c.in-Ok.ensures.shut

pub returns-clause-shut : goal.returns-clause-shut
returns-clause-shut g c =
    let vol = g.V.Volume in
    still_shut {X = Vec SessionState Global} vol.told vol.history vol.faults (λ i. DeviceAt {X = Vec SessionState Global} (Ok c.in-Ok.sessions) i) (λ i. DeviceAt c.collect_tiles.result i) c.args.from.now c.open_sources.new.from c.collect_tiles.new.from
    (Ok c.in-Ok.sessions) c.collect_tiles.result (λ i. tt) c.in-Ok.ensures.sources c.in-Ok.ensures.shut c.collect_tiles.ensures.still
