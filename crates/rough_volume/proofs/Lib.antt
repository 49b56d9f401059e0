mod Acting
