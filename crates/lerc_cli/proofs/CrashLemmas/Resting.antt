-- What stands on the disk behind a command on a bundle.
use Rattle.std.proofs.Common.{◌≡◌, ◌⊎◌, ◌∙◌, ℕ, List, Ok, Err, inl, inr, sym, subst}
use Rattle.std.specs.Prelude.{IsTrue}
use Rattle.outside_io.specs.declared.volume.VolFile.TheVariants.{Journal}
use Rattle.outside_io.specs.volume.Disk.{Disk}
use Rattle.outside_io.specs.volume.History.{contents, current}
use Rattle.bundle_lines.specs.declared.stop.LineStop.TheVariants.{Output as LineOutput, Volume as LineVolume}
use Rattle.bundle_lines.specs.Gave.{LineEnd}
use Rattle.program_ends.specs.Moves.{VolumeMove}
use Rattle.lerc_cli.specs.declared.words.Command.{Command}
use Rattle.lerc_cli.specs.declared.words.Command.TheVariants.{Encode, Decode, Info, Build, Put, Get, GetRaw, List as ListAll, Check, Recover, Sample}
use Rattle.program_ends.specs.declared.stop.Stop.{Stop}
use Rattle.lerc_cli.specs.declared.refusal.Refusal.{Refusal}
use Rattle.lerc_cli.specs.words.Commands.{calls_volume}
use Rattle.lerc_cli.specs.inputs.Given.{Given}
use Rattle.lerc_cli.specs.run.Run.{OfVolume}
use Rattle.lerc_cli.specs.answers.Names.{End, status_at}
use Rattle.opened_bundle.specs.Left.{IsShut}
use Rattle.lerc_cli.specs.crashes.Phase.{Phase, Recovered, Updated, ComesTo, IsLeftIn, Rests, RestsBehind}
use Rattle.lerc_cli.specs.inside.Opening.{DecodesTile, end_of}
use Rattle.lerc_cli.proofs.AnswerLemmas.Statuses.{ok_at, output_at}
use Rattle.program_ends.specs.declared.stop.Stop.TheVariants.{Usage, Refused, Source, Output, Volume, OutOfMemory}
use Rattle.opened_bundle.specs.declared.refusal.StoreRefusal.{StoreRefusal}
use Rattle.opened_bundle.specs.declared.refusal.StoreRefusal.TheVariants.{NoTile, Beyond, BadBundle, BadJournal, NotEmpty, Full}
use Rattle.opened_bundle.specs.Left.{RestsBehind as RestsUnopened}
use Rattle.lerc_cli.specs.declared.refusal.Refusal.TheVariants.{Input, Store, Stream}
use Rattle.lerc_cli.specs.inside.Opening.{of_store}

-- ---- the bundle was not opened, or a tile of it was not read

pub rests_store : (stop : Stop StoreRefusal) (journal : List ℕ) (d : Disk) → RestsUnopened stop journal d → RestsBehind (of_store stop) journal d
rests_store Usage journal d rests = rests
rests_store Source journal d rests = rests
rests_store Output journal d rests = rests
rests_store Volume journal d rests = rests
rests_store OutOfMemory journal d rests = rests
rests_store (Refused (NoTile row col)) journal d rests = rests
rests_store (Refused (Beyond row col entry got)) journal d rests = rests
rests_store (Refused (BadBundle place found)) journal d rests = rests
rests_store (Refused (BadJournal place found)) journal d rests = rests
rests_store (Refused (NotEmpty len)) journal d rests = rests
rests_store (Refused (Full len)) journal d rests = rests

-- ---- a tile and lines

pub rests_undecoded : (tile : List ℕ) (s : Stop Refusal) (journal : List ℕ) (d : Disk) → DecodesTile tile (Err s) → IsShut d → RestsBehind s journal d
rests_undecoded tile Usage journal d is shut = absurd is
rests_undecoded tile (Refused (Input fault)) journal d is shut = shut
rests_undecoded tile Source journal d is shut = absurd is
rests_undecoded tile Output journal d is shut = absurd is
rests_undecoded tile Volume journal d is shut = absurd is
rests_undecoded tile OutOfMemory journal d is shut = shut
rests_undecoded tile (Refused (Store refusal)) journal d is shut = absurd is
rests_undecoded tile (Refused (Stream refusal)) journal d is shut = absurd is

-- a tile that does not decode is no failure of the volume
pub undecoded_alone : (tile : List ℕ) (s : Stop Refusal) → DecodesTile tile (Err s) → s ≡ Volume → ⊥
undecoded_alone tile s is same = subst (λ (x : Stop Refusal). DecodesTile tile (Err x)) same is

pub rests_lines : (r : LineEnd) (journal : List ℕ) (d : Disk) → IsShut d → Rests (end_of r) journal d
rests_lines (Ok x) journal d shut = shut
rests_lines (Err LineOutput) journal d shut = shut
rests_lines (Err LineVolume) journal d shut = tt

-- ---- by the status

called_well : (c : Command) (phase : Phase) → IsTrue (calls_volume c) → ComesTo c (Ok tt) phase → (phase ≡ Recovered) ⊎ (phase ≡ Updated)
called_well (Encode version error) phase calls comes = absurd (let bad : ⊥ = cc in bad)
called_well Decode phase calls comes = absurd (let bad : ⊥ = cc in bad)
called_well Info phase calls comes = absurd (let bad : ⊥ = cc in bad)
called_well (Build version error workers) phase calls comes = inr comes
called_well (Put version error workers) phase calls comes = inr comes
called_well (Get slot) phase calls comes = inl comes
called_well (GetRaw slot) phase calls comes = inl comes
called_well ListAll phase calls comes = inl comes
called_well Check phase calls comes = inl comes
called_well Recover phase calls comes = inl comes
called_well (Sample first count) phase calls comes = absurd (let bad : ⊥ = cc in bad)

called_cut : (c : Command) (phase : Phase) → IsTrue (calls_volume c) → ComesTo c (Err Output) phase → (phase ≡ Recovered) ⊎ (phase ≡ Updated)
called_cut (Encode version error) phase calls comes = absurd (let bad : ⊥ = cc in bad)
called_cut Decode phase calls comes = absurd (let bad : ⊥ = cc in bad)
called_cut Info phase calls comes = absurd (let bad : ⊥ = cc in bad)
called_cut (Build version error workers) phase calls comes = inr comes
called_cut (Put version error workers) phase calls comes = inr comes
called_cut (Get slot) phase calls comes = inl comes
called_cut (GetRaw slot) phase calls comes = inl comes
called_cut ListAll phase calls comes = inl comes
called_cut Check phase calls comes = inl comes
called_cut Recover phase calls comes = inl comes
called_cut (Sample first count) phase calls comes = absurd (let bad : ⊥ = cc in bad)

module _ (c : Command) (g : Given) (marks : List ℕ) (vol : VolumeMove) (yes_ : IsTrue vol.told.old) where
  shut_in : (end : End) (phase : Phase) → (end ≡ Err Volume → ⊥) → (Rests end (contents Journal vol.history.old) (current vol.history.new) → IsShut (current vol.history.new))
      → (phase ≡ Recovered) ⊎ (phase ≡ Updated) → IsLeftIn phase c g end marks vol → IsShut (current vol.history.new)
  shut_in end phase well shut (inl is) left = let here : IsLeftIn Recovered c g end marks vol = subst (λ (p : Phase). IsLeftIn p c g end marks vol) is left in shut (here yes_ well).rests
  shut_in end phase well shut (inr is) left = let here : IsLeftIn Updated c g end marks vol = subst (λ (p : Phase). IsLeftIn p c g end marks vol) is left in (here yes_ well).rests

  shut_well : (end : End) → end ≡ Ok tt → IsTrue (calls_volume c) → OfVolume c g end marks vol → IsShut (current vol.history.new)
  shut_well end is calls leaves =
      let so = subst (λ (x : End). OfVolume c g x marks vol) is leaves in
      shut_in (Ok tt) so.phase (λ bad. cc) (λ shut. shut) (called_well c so.phase calls so.comes) so.left

  shut_cut : (end : End) → end ≡ Err Output → IsTrue (calls_volume c) → OfVolume c g end marks vol → IsShut (current vol.history.new)
  shut_cut end is calls leaves =
      let so = subst (λ (x : End). OfVolume c g x marks vol) is leaves in
      shut_in (Err Output) so.phase (λ bad. cc) (λ shut. shut) (called_cut c so.phase calls so.comes) so.left

module _ (c : Command) (g : Given) (end : End) (marks : List ℕ) (vol : VolumeMove) where
  -- all went well, or the output alone failed
  pub shut_at : (status : ℕ) → status ≡ status_at end → IsTrue (calls_volume c) → IsTrue vol.told.old → (status ≡ 0) ⊎ (status ≡ 4)
      → OfVolume c g end marks vol → IsShut (current vol.history.new)
  shut_at status is calls yes_ (inl zero) leaves = shut_well c g marks vol yes_ end (ok_at end (sym is ∙ zero)) calls leaves
  shut_at status is calls yes_ (inr four) leaves = shut_cut c g marks vol yes_ end (output_at end (sym is ∙ four)) calls leaves
