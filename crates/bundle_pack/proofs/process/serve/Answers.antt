use Rattle.std.proofs.Common.{inl, inr, refl, subst, sym, ◌∙◌}
use Rattle.std.proofs.lemmas.Bool.{cases_eq}
use Rattle.std.specs.Prelude.{length}
use Rattle.program_ends.specs.Stop.{line_by}
use Rattle.bundle_pack.specs.Words.{IsAsked}
use Rattle.bundle_pack.proofs.Asking.{told_asking}
use Rattle.bundle_pack.proofs.process.serve.Goals as goal

pub returns-in-Ok-clause-usage : goal.returns-in-Ok-clause-usage
returns-in-Ok-clause-usage g c = λ texts told none.
    let words_are = c.deref.ensures.value ∙ told_asking _ texts _ told c.in-Ok.ensures in
    inl (c.exit_code.ensures ∙ c.run_pack.ensures.usage.1 (λ asked. none (subst (λ words. IsAsked words (length c.args.from.now)) words_are asked)))

pub returns-in-Ok-clause-ran : goal.returns-in-Ok-clause-ran
returns-in-Ok-clause-ran g c = λ texts told asked.
    let words_are = c.deref.ensures.value ∙ told_asking _ texts _ told c.in-Ok.ensures in
    inr (rw c.exit_code.ensures (c.run_pack.ensures.ran (subst (λ words. IsAsked words (length c.args.from.now)) (sym words_are) asked)))

pub returns-in-Err-clause-ran : goal.returns-in-Err-clause-ran
unfolding line_by
returns-in-Err-clause-ran g c = λ texts told asked. inl (record {
  status_is = c.end_without_memory.ensures.status;
  sources = refl;
  target = refl;
  output = refl;
  line = c.end_without_memory.ensures.line;
})

pub returns-in-Ok-clause-unused : goal.returns-in-Ok-clause-unused
returns-in-Ok-clause-unused g c = λ one.
    let is = sym c.exit_code.ensures ∙ one in
    let u = c.run_pack.ensures.unused is in (u.0, u.1, u.2, c.run_pack.ensures.usage_told is)

pub returns-in-Err-clause-usage : goal.returns-in-Err-clause-usage
unfolding line_by
returns-in-Err-clause-usage g c = λ texts told none. inr (record {
  status_is = c.end_without_memory.ensures.status;
  sources = refl;
  target = refl;
  output = refl;
  line = c.end_without_memory.ensures.line;
})

pub returns-in-Ok-clause-output_failed : goal.returns-in-Ok-clause-output_failed
returns-in-Ok-clause-output_failed g c = rw c.exit_code.ensures c.run_pack.ensures.output_failed

pub returns-in-Ok-clause-volume_failed : goal.returns-in-Ok-clause-volume_failed
returns-in-Ok-clause-volume_failed g c = rw c.exit_code.ensures c.run_pack.ensures.volume_failed

pub returns-in-Ok-clause-some_run : goal.returns-in-Ok-clause-some_run
returns-in-Ok-clause-some_run g c = elim (cases_eq c.run_pack.result 1) [
  | inl one ↦ inl (c.exit_code.ensures ∙ one)
  | inr other ↦ let s = c.run_pack.ensures.asked other in inr (inr (_, (s, rw c.exit_code.ensures (c.run_pack.ensures.ran s))))
]

pub returns-in-Err-clause-some_run : goal.returns-in-Err-clause-some_run
unfolding line_by
returns-in-Err-clause-some_run g c = inr (inl (record {
  status_is = c.end_without_memory.ensures.status;
  sources = refl;
  target = refl;
  output = refl;
  line = c.end_without_memory.ensures.line;
}))
