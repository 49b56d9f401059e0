-- Six lines that were added one behind the other.
use Rattle.std.proofs.Common.{◌≡◌, ℕ, List, [], ◌++◌, ap, ◌∙◌, append_assoc}

pub six_joined : (s0 s1 s2 s3 s4 s5 s6 a b c d e f : List ℕ) → s0 ≡ [] → s1 ≡ s0 ++ a → s2 ≡ s1 ++ b → s3 ≡ s2 ++ c → s4 ≡ s3 ++ d → s5 ≡ s4 ++ e → s6 ≡ s5 ++ f → s6 ≡ a ++ (b ++ (c ++ (d ++ (e ++ f))))
six_joined s0 s1 s2 s3 s4 s5 s6 a b c d e f z p q r s t u =
    u ∙ ap (λ (w : List ℕ). w ++ f) (t ∙ ap (λ (w : List ℕ). w ++ e) (s ∙ ap (λ (w : List ℕ). w ++ d) (r ∙ ap (λ (w : List ℕ). w ++ c) (q ∙ ap (λ (w : List ℕ). w ++ b) (p ∙ ap (λ (w : List ℕ). w ++ a) z)))))
    ∙ append_assoc (((a ++ b) ++ c) ++ d) e f ∙ append_assoc ((a ++ b) ++ c) d (e ++ f) ∙ append_assoc (a ++ b) c (d ++ (e ++ f)) ∙ append_assoc a b (c ++ (d ++ (e ++ f)))
