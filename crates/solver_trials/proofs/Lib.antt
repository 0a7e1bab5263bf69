mod LitLemmas
mod LogLemmas
