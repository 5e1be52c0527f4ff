use Rattle.sheet_write.proofs.laws.squeezed_prices_prove.Goals as goal

pub returns : goal.returns
returns c = λ i nodes steps best l trace few run.
    record { budget = few; most = run.proved.most; value = run.bound; is = run.greatest.here; proves = run.proved.proved }
