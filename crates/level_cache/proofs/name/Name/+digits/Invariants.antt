use Rattle.level_cache.proofs.name.Name.+digits.Given as goal

abbrev pub decreases-digits : goal.decreases-digits
decreases-digits l = l.count
