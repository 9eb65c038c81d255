mod CodeLemmas
