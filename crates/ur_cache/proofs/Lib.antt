mod Examples
mod Recency
