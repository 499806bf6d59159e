use Rattle.pair_cert.proofs.certificate.+is_certified.Given as goal

abbrev pub decreases-is_certified : goal.decreases-is_certified
decreases-is_certified l = l.depth
