-- One answer of `build`.
use Rattle.std.proofs.Common.{◌≡◌, inl, inr, ℕ, List, [], length, Err, refl, sym, ◌∙◌, ap, arith}
use Rattle.lerc_header.specs.declared.header.Version.{Version}
use Rattle.lerc_header.specs.Written.{step_of}
use Rattle.bundle_lines.specs.Builds.{built_line_of}
use Rattle.tile_updates.proofs.Refusals.{stops_once, updates_once, updates_or_stop}
use Rattle.lerc_cli.specs.declared.words.Command.TheVariants.{Build}
use Rattle.opened_bundle.specs.declared.refusal.StoreRefusal.{StoreRefusal}
use Rattle.opened_bundle.specs.declared.refusal.StoreRefusal.TheVariants.{NotEmpty}
use Rattle.program_ends.specs.declared.stop.Stop.{Stop}
use Rattle.lerc_cli.specs.declared.refusal.Refusal.{Refusal}
use Rattle.program_ends.specs.declared.stop.Stop.TheVariants.{Refused}
use Rattle.lerc_cli.specs.declared.refusal.Refusal.TheVariants.{Input, Store, Stream}
use Rattle.opened_bundle.specs.Files.{Files}
use Rattle.lerc_cli.specs.answers.Table.{Answers, IsOutput, IsRefusal}
use Rattle.lerc_cli.specs.inputs.Given.{Given}
use Rattle.lerc_cli.specs.inputs.Refused.{stream_stop_of}
use Rattle.lerc_cli.proofs.AnswerLemmas.Answered.{Once, refusal_of, refused, well}
use Rattle.opened_bundle.proofs.OneBundle.{both, one_opening, recovered_or_opening}
use Rattle.lerc_cli.proofs.AnswerLemmas.PutOnce.{IsOwn, all_told, own_bytes, own_refused}

-- ---- one refusal

one_build_refusal : (v : Version) (e w : ℕ) (bytes : List ℕ) (f : Files) (n m : ℕ) (stop other : Stop Refusal) → IsOwn stop → IsOwn other
    → IsRefusal (Build v e w) (all_told bytes f) n stop → IsRefusal (Build v e w) (all_told bytes f) m other → stop ≡ other
one_build_refusal v e w bytes f n m stop other own its (zero, inl (s, (is, tells))) (none, inl (t, (so, told))) =
    let same = stops_once v (step_of e) bytes s t (own_bytes v (step_of e) bytes stop s own is tells) (own_bytes v (step_of e) bytes other t its so told) in
    is ∙ ap stream_stop_of same ∙ sym so
one_build_refusal v e w bytes f n m stop other own its (zero, inl (s, (is, tells))) (none, inr (inl (us, (of, rest)))) =
    absurd (updates_or_stop v (step_of e) bytes us s of (own_bytes v (step_of e) bytes stop s own is tells))
one_build_refusal v e w bytes f n m stop other own its (zero, inl (s, (is, tells))) (none, inr (inr (len, (so, (us, rest))))) =
    absurd (updates_or_stop v (step_of e) bytes us s rest.0 (own_bytes v (step_of e) bytes stop s own is tells))
one_build_refusal v e w bytes f n m stop other own its (zero, inr (inl (us, (of, rest)))) (none, inl (t, (so, told))) =
    absurd (updates_or_stop v (step_of e) bytes us t of (own_bytes v (step_of e) bytes other t its so told))
one_build_refusal v e w bytes f n m stop other own its (zero, inr (inl (us, (of, (r, (is, opening)))))) (none, inr (inl (vs, (from, (s, (so, closing)))))) =
    is ∙ ap (λ (x : StoreRefusal). Refused (Store x)) (one_opening f r s opening closing) ∙ sym so
one_build_refusal v e w bytes f n m stop other own its (zero, inr (inl (us, (of, (r, (is, opening)))))) (none, inr (inr (len, (so, (vs, (from, some, there)))))) =
    absurd (recovered_or_opening f (λ b. len ≡ length b) r there opening)
one_build_refusal v e w bytes f n m stop other own its (zero, inr (inr (len, (is, (us, rest))))) (none, inl (t, (so, told))) =
    absurd (updates_or_stop v (step_of e) bytes us t rest.0 (own_bytes v (step_of e) bytes other t its so told))
one_build_refusal v e w bytes f n m stop other own its (zero, inr (inr (len, (is, (us, (of, some, there)))))) (none, inr (inl (vs, (from, (s, (so, closing)))))) =
    absurd (recovered_or_opening f (λ b. len ≡ length b) s there closing)
one_build_refusal v e w bytes f n m stop other own its (zero, inr (inr (len, (is, (us, (of, some, there)))))) (none, inr (inr (size, (so, (vs, (from, more, here)))))) =
    let same = both f (λ b. len ≡ length b) (λ b. size ≡ length b) there here in
    is ∙ ap (λ (x : ℕ). Refused (Store (NotEmpty x))) (same.1.0 ∙ sym same.1.1) ∙ sym so

build_or_refusal : (v : Version) (e w : ℕ) (bytes : List ℕ) (f : Files) (n m : ℕ) (output : List ℕ) (stop : Stop Refusal) → IsOwn stop
    → IsOutput (Build v e w) (all_told bytes f) n output → IsRefusal (Build v e w) (all_told bytes f) m stop → ⊥
build_or_refusal v e w bytes f n m output stop own (us, rest) (none, inl (t, (so, told))) = updates_or_stop v (step_of e) bytes us t rest.0 (own_bytes v (step_of e) bytes stop t own so told)
build_or_refusal v e w bytes f n m output stop own (us, (of, all, empty, is)) (none, inr (inl (vs, (from, (s, (so, closing)))))) = recovered_or_opening f (λ b. b ≡ []) s empty closing
build_or_refusal v e w bytes f n m output stop own (us, (of, all, empty, is)) (none, inr (inr (size, (so, (vs, (from, some, there)))))) =
    let same = both f (λ b. b ≡ []) (λ b. size ≡ length b) empty there in
    omega (arith, some, same.1.1, ap length same.1.0)

-- ---- one output

-- nothing is given where the program refuses
none_given : (v : Version) (e w : ℕ) (g : Given) (n : ℕ) (r : Refusal) (output : List ℕ) → Answers (Build v e w) g n (Err (Refused r)) output → output ≡ []
none_given v e w g n (Input fault) output a = a.1
none_given v e w g n (Store refusal) output a = a.1.1
none_given v e w g n (Stream refusal) output a = a.1

pub build_once : (v : Version) (e w : ℕ) (bytes : List ℕ) (f : Files) → Once (Build v e w) (all_told bytes f)
build_once v e w bytes f n m well well output another a b =
    (refl, a.1.3 ∙ ap built_line_of (updates_once v (step_of e) bytes a.0 b.0 a.1.0 b.1.0) ∙ sym b.1.3)
build_once v e w bytes f n m well (refused s) output another a b =
    absurd (build_or_refusal v e w bytes f n m output (Refused s) (own_refused s) a (refusal_of (Build v e w) (all_told bytes f) m s another b))
build_once v e w bytes f n m (refused r) well output another a b =
    absurd (build_or_refusal v e w bytes f m n another (Refused r) (own_refused r) b (refusal_of (Build v e w) (all_told bytes f) n r output a))
build_once v e w bytes f n m (refused r) (refused s) output another a b =
    let same =
    one_build_refusal v e w bytes f n m (Refused r) (Refused s) (own_refused r) (own_refused s) (refusal_of (Build v e w) (all_told bytes f) n r output a) (refusal_of (Build v e w) (all_told bytes f) m s another b) in
    (ap (λ (x : Stop Refusal). Err x) same, none_given v e w (all_told bytes f) n r output a ∙ sym (none_given v e w (all_told bytes f) m s another b))
