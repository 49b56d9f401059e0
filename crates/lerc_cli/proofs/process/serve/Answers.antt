use Rattle.std.proofs.Common.{inl, inr, refl, subst, sym, ◌∙◌}
use Rattle.std.proofs.lemmas.Bool.{cases_eq}
use Rattle.program_ends.specs.Stop.{line_by}
use Rattle.lerc_cli.specs.words.Commands.{IsNoCommand, IsSpelled}
use Rattle.program_ends.proofs.Words.{told_words}
use Rattle.lerc_cli.proofs.process.serve.Goals as goal

pub returns-in-Ok-clause-usage : goal.returns-in-Ok-clause-usage
returns-in-Ok-clause-usage g c = λ texts told none.
    let words_are = c.deref.ensures.value ∙ told_words 2 _ texts _ told c.in-Ok.ensures in
    inl (c.exit_code.ensures ∙ c.run.ensures.usage.1 (subst IsNoCommand (sym words_are) none))

pub returns-in-Ok-clause-ran : goal.returns-in-Ok-clause-ran
returns-in-Ok-clause-ran g c = λ texts told command spelled.
    let words_are = c.deref.ensures.value ∙ told_words 2 _ texts _ told c.in-Ok.ensures in
    inr (c.run.result.marks.marks, rw c.exit_code.ensures (c.run.ensures.ran command (subst (IsSpelled command) (sym words_are) spelled)))

pub returns-in-Err-clause-ran : goal.returns-in-Err-clause-ran
unfolding line_by
returns-in-Err-clause-ran g c = λ texts told command spelled. inl (record {
  status_is = c.end_without_memory.ensures.status;
  source = refl;
  output = refl;
  volume = refl;
  line = c.end_without_memory.ensures.line;
})

pub returns-in-Err-clause-usage : goal.returns-in-Err-clause-usage
unfolding line_by
returns-in-Err-clause-usage g c = λ texts told none. inr (record {
  status_is = c.end_without_memory.ensures.status;
  source = refl;
  output = refl;
  volume = refl;
  line = c.end_without_memory.ensures.line;
})

pub returns-in-Ok-clause-source_failed : goal.returns-in-Ok-clause-source_failed
returns-in-Ok-clause-source_failed g c = rw c.exit_code.ensures c.run.ensures.source_failed

pub returns-in-Ok-clause-output_failed : goal.returns-in-Ok-clause-output_failed
returns-in-Ok-clause-output_failed g c = rw c.exit_code.ensures c.run.ensures.output_failed

pub returns-in-Ok-clause-volume_failed : goal.returns-in-Ok-clause-volume_failed
returns-in-Ok-clause-volume_failed g c = rw c.exit_code.ensures c.run.ensures.volume_failed

pub returns-in-Ok-clause-some_run : goal.returns-in-Ok-clause-some_run
returns-in-Ok-clause-some_run g c = elim (cases_eq c.run.result.status 1) [
  | inl one ↦ inl (c.exit_code.ensures ∙ one)
  | inr other ↦ let s = c.run.ensures.spelled other in inr (inr (_, (s.0, (s.1, (c.run.result.marks.marks, rw c.exit_code.ensures (c.run.ensures.ran s.0 s.1))))))
]

pub returns-in-Err-clause-some_run : goal.returns-in-Err-clause-some_run
unfolding line_by
returns-in-Err-clause-some_run g c = inr (inl (record {
  status_is = c.end_without_memory.ensures.status;
  source = refl;
  output = refl;
  volume = refl;
  line = c.end_without_memory.ensures.line;
}))
